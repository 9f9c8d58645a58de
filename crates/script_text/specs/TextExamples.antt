-- Texts made by hand.
use Rattle.std.specs.Prelude.{◌≡◌, ℕ, List, [], ◌∷◌, ◌++◌, codes, Some, None}
use Rattle.net_wire.specs.declared.dns.dns_type.DnsType.TheVariants.{A, Aaaa}
use Rattle.host_model.specs.Script.{Arrival, Tick, Reset, Frame, Query, Event}
use Rattle.script_text.specs.EventText.{event_line}
use Rattle.script_text.specs.Lines.{words_of}
use Rattle.script_text.specs.Meaning.{Right, Long, Wrong, verdict}
use Rattle.script_text.specs.Words.{micros_of, name_of, hex_bytes, unescaped}

abbrev pub event : ℕ → Arrival → Event
event at arrival = record { at = at; arrival = arrival }

-- lines with a line feed behind each
abbrev pub text : List (List ℕ) → List ℕ
text [] = []
text (line ∷ lines) = line ++ 0x0a ∷ [] ++ text lines

-- tab, space and carriage return stand between words; a comment begins inside a word too
pub record HasWords : Type 0 where
  pub blanks : words_of (0x20 ∷ [] ++ codes "1" ++ 0x09 ∷ 0x20 ∷ [] ++ codes "tick" ++ 0x0d ∷ [])
      ≡ codes "1" ∷ codes "tick" ∷ []
  pub comment : words_of (codes "1 ti#ck reset") ≡ codes "1" ∷ codes "ti" ∷ []
  pub none : words_of (codes "  # 1 tick") ≡ []

-- seconds, and a fraction of one to six digits
pub record HasTimes : Type 0 where
  pub half : micros_of (codes "9.5") ≡ Some 9500000
  pub zeros : micros_of (codes "0000000001.000002") ≡ Some 1000002
  pub seven : micros_of (codes "1.0000001") ≡ None
  pub eleven : micros_of (codes "00000000001") ≡ None
  pub bare_point : micros_of (codes "1.") ≡ None
  pub two_points : micros_of (codes "1.2.3") ≡ None

-- digits of either case, two a byte
pub record HasBytes : Type 0 where
  pub two : hex_bytes (codes "0aFf") ≡ Some (0x0a ∷ 0xff ∷ [])
  pub odd : hex_bytes (codes "0af") ≡ None
  pub other : hex_bytes (codes "0g") ≡ None

-- \ and two digits are a byte; a blank, a #, a \ and 7f are none by themselves, and a byte from 80 on is
-- itself
pub record HasEscapes : Type 0 where
  pub blank : unescaped (codes "a" ++ 0x5c ∷ codes "20b") ≡ Some (codes "a b")
  pub upper : unescaped (0x5c ∷ codes "fF") ≡ Some (0xff ∷ [])
  pub high : unescaped (0xc3 ∷ 0xa9 ∷ []) ≡ Some (0xc3 ∷ 0xa9 ∷ [])
  pub one_digit : unescaped (codes "a" ++ 0x5c ∷ codes "2") ≡ None
  pub no_digit : unescaped (0x5c ∷ codes "2g") ≡ None
  pub bare : unescaped (0x5c ∷ []) ≡ None
  pub delete : unescaped (codes "a" ++ 0x7f ∷ []) ≡ None
  pub hyphen : name_of (codes "-") ≡ Some []

-- times may be the same and may be counted from the event before; lines without words, and without a line
-- feed at the end, are lines
pub record HasEvents : Type 0 where
  pub times : verdict 3 (text (codes "0 tick" ∷ codes "9.999999 tick" ∷ codes "+0.000001 reset" ∷ []))
      ≡ Right (event 0 Tick ∷ event 9999999 Tick ∷ event 10000000 Reset ∷ [])
  pub first_plus : verdict 1 (codes "+2 tick") ≡ Right (event 2000000 Tick ∷ [])
  pub same_time : verdict 2 (text (codes "1 tick # again" ∷ [] ∷ codes "1 tick" ∷ []))
      ≡ Right (event 1000000 Tick ∷ event 1000000 Tick ∷ [])
  pub frames : verdict 2 (text (codes "0 frame" ∷ codes "0 frame 0a FF01" ∷ []))
      ≡ Right (event 0 (Frame []) ∷ event 0 (Frame (0x0a ∷ 0xff ∷ 0x01 ∷ [])) ∷ [])
  pub nothing : verdict 0 [] ≡ Right []

-- the first word that has not its form, is missing, or is one too many
pub record HasWrongWords : Type 0 where
  pub falls : verdict 2 (text (codes "1 tick" ∷ codes "0 tick" ∷ [])) ≡ Wrong 2 1
  pub too_late : verdict 1 (codes "4294967296 tick") ≡ Wrong 1 1
  pub no_command : verdict 1 (codes "1") ≡ Wrong 1 2
  pub other_command : verdict 1 (codes "1 Tick") ≡ Wrong 1 2
  pub one_more : verdict 1 (codes "1 tick now") ≡ Wrong 1 3
  pub no_type : verdict 1 (codes "1 query") ≡ Wrong 1 3
  pub other_type : verdict 1 (codes "1 query MX a") ≡ Wrong 1 3
  pub no_name : verdict 1 (codes "1 query A") ≡ Wrong 1 4
  pub odd : verdict 1 (codes "1 frame 00 0") ≡ Wrong 1 4
  pub behind : verdict 2 (text ([] ∷ codes "1 tick" ∷ codes "2 tack" ∷ codes "x" ∷ [])) ≡ Wrong 3 2

-- settings: one at least, each key once
pub record HasSettings : Type 0 where
  pub some : verdict 1 (codes "set dns=192.168.1.53 lease=1000 t1=none") ≡ Right []
  pub stations : verdict 1 (codes "set client=02:00:00:00:00:35 server=10.0.0.1 prefix=08 router=none")
      ≡ Right []
  pub plain_station : verdict 1 (codes "set client=0200000000FF") ≡ Right []
  pub two_servers : verdict 1 (codes "set dns=1.2.3.4,5.6.7.8") ≡ Right []
  pub none : verdict 1 (codes "set") ≡ Wrong 1 2
  pub other_key : verdict 1 (codes "set mtu=5") ≡ Wrong 1 2
  pub no_value : verdict 1 (codes "set lease") ≡ Wrong 1 2
  pub twice : verdict 1 (codes "set lease=5 lease=none") ≡ Wrong 1 3
  pub long_prefix : verdict 1 (codes "set t2=5 prefix=33") ≡ Wrong 1 3
  pub large_octet : verdict 1 (codes "set router=1.2.3.256") ≡ Wrong 1 2
  pub four_servers : verdict 1 (codes "set dns=1.1.1.1,1.1.1.1,1.1.1.1,1.1.1.1") ≡ Wrong 1 2
  pub long_lease : verdict 1 (codes "set lease=4294967296") ≡ Wrong 1 2

-- behind as many events as there may be any line of an event is one too many, and a setting is none
pub record HasLimits : Type 0 where
  pub setting : verdict 1 (text (codes "0 tick" ∷ codes "set lease=5" ∷ [])) ≡ Right (event 0 Tick ∷ [])
  pub any : verdict 1 (text (codes "0 tick" ∷ codes "x" ∷ [])) ≡ Long
  pub event_line : verdict 1 (text (codes "0 tick" ∷ codes "1 tick" ∷ [])) ≡ Long
  pub wrong_setting : verdict 1 (text (codes "0 tick" ∷ codes "set x" ∷ [])) ≡ Wrong 2 2

-- six digits behind the point; a blank in a name, a name that is a hyphen, an empty one, and frames
pub record HasLines : Type 0 where
  pub tick : event_line (event 0 Tick) ≡ codes "0.000000 tick" ++ 0x0a ∷ []
  pub reset : event_line (event 12000005 Reset) ≡ codes "12.000005 reset" ++ 0x0a ∷ []
  pub blank : event_line (event 1500000 (Query Aaaa (codes "a b")))
      ≡ codes "1.500000 query AAAA a" ++ 0x5c ∷ codes "20b" ++ 0x0a ∷ []
  pub hyphen : event_line (event 2000000 (Query A (codes "-")))
      ≡ codes "2.000000 query A " ++ 0x5c ∷ codes "2d" ++ 0x0a ∷ []
  pub no_name : event_line (event 2000000 (Query A [])) ≡ codes "2.000000 query A -" ++ 0x0a ∷ []
  pub no_frame : event_line (event 2000000 (Frame [])) ≡ codes "2.000000 frame" ++ 0x0a ∷ []
  pub frame : event_line (event 3000000 (Frame (0x0a ∷ 0xff ∷ []))) ≡ codes "3.000000 frame 0aff" ++ 0x0a ∷ []
