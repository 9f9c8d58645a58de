-- Words that name a command.
use Rattle.std.proofs.Common.{◌≡◌, ℕ, ◌⊎◌, inl, inr, ◌-◌, ◌*◌, ◌≤◌, Bool, false, List, [], ◌∷◌, length, length-drop, get_or, take, drop, map, codes, Option, None, Some, IfSome, IfNone, cond, nat_eq, option_map, unwrap_or, refl, sym, ◌∙◌, ap, ap₂, subst, arith}
use Rattle.std.specs.Cmp.Lexicographic.{pointwise}
use Rattle.std.proofs.lemmas.List.{take_all}
use Rattle.std.proofs.lemmas.Option.{none-some, same_Some}
use Rattle.host_model.specs.Settings.{Settings}
use Rattle.net_host.specs.declared.config.HostConfigError.{HostConfigError}
use Rattle.net_host.specs.Config.{refusal_of}
use Rattle.net_host.proofs.SettingsLemmas.{defaults_accepted}
use Rattle.net_wire.specs.declared.address.EthernetAddress.{EthernetAddress}
use Rattle.host_top.specs.declared.command.Asked.{Asked}
use Rattle.host_top.specs.declared.command.Command.{Command}
use Rattle.host_top.specs.declared.command.Command.TheVariants.{Run, Make, Explain, Print, Help, Disturb, Serve, Show, Frames}
use Rattle.host_top.specs.declared.command.Keyword.{Keyword}
use Rattle.host_top.specs.declared.command.Keyword.TheVariants as keyword
use Rattle.host_top.specs.declared.command.MakeCommand.{MakeCommand}
use Rattle.host_top.specs.declared.command.RunCommand.{RunCommand}
use Rattle.host_top.specs.declared.setting.RunSettings.{RunSettings}
use Rattle.host_top.specs.declared.disturb_command.DisturbCommand.{DisturbCommand}
use Rattle.host_top.specs.Disturb.{WritesDisturb, IsDisturbable}
use Rattle.host_top.specs.declared.capture_command.CaptureCommand.{CaptureCommand}
use Rattle.host_top.specs.Explain.{WritesCapture, IsReadable}
use Rattle.host_top.specs.RunWords.{WritesRun, IsRunnable, settings_named}
use Rattle.host_top.specs.MakeWords.{WritesMake, run_of_make}
use Rattle.host_top.specs.Command.{IsKeyword, WritesAs, NameWork, NameLiveWork, CanBeLive, Names, AreNamed, command_asked, IsTaken, NamesOne, IsCommand}
use Rattle.host_top.specs.HostMain.{Ask, AskForNoWork, AskToRead}
use Rattle.host_top.specs.Setting.{Sets}
use Rattle.host_top.proofs.OneSettingLemmas.{sets_one}
use Rattle.host_top.specs.declared.show_command.ShowCommand.{ShowCommand}
use Rattle.host_top.specs.Show.{WritesShow, IsShowable}
use Rattle.host_top.proofs.ServeLemmas.{servable, writes_one_serve}
use Rattle.host_top.proofs.SettingWordLemmas.{mtu_in_range}

behind_three : {X : Type 0} (f : X → List ℕ) (words : List X) (a b c : List ℕ) (behind : List (List ℕ)) → map f words ≡ a ∷ b ∷ c ∷ behind
    → behind ≡ map f (drop 3 words)
behind_three f [] a b c behind is = absurd (cc)
behind_three f (x ∷ []) a b c behind is = absurd (cc)
behind_three f (x ∷ y ∷ []) a b c behind is = absurd (cc)
behind_three f (x ∷ y ∷ z ∷ words) a b c behind is = cc

behind : {X : Type 0} (words : List X) (n : ℕ) → drop n words ≡ take (length words - n) (drop n words)
behind words n = sym (take_all (length words - n) (drop n words) (omega (arith, length-drop n words)))

-- where the words behind the first three are no settings
pub unset : {X : Type 0} (f : X → List ℕ) (words : List X) → ((said : RunSettings) → Sets (map f (take (length words - 3) (drop 3 words))) said → ⊥)
    → (run : RunCommand) → WritesRun (map f words) run → ⊥
unset f words none run writes =
    let are = behind_three f words writes.hardware_word writes.seed_word writes.max_word writes.setting_words writes.are in
    none run.settings (subst (λ l. Sets (map f l) run.settings) (behind words 3) (subst (λ l. Sets l run.settings) are writes.settings))

-- the words behind the first one
abbrev behind_first : {X : Type 0} → (X → List ℕ) → List X → List (List ℕ)
behind_first {X} f words = map f (take (length words - 1) (drop 1 words))

-- lists of words begin with one word
one_first : (words : List (List ℕ)) (a b : List ℕ) (xs ys : List (List ℕ)) → words ≡ a ∷ xs → words ≡ b ∷ ys → a ≡ b
one_first words a b xs ys one other = ap (λ l. get_or l 0 []) (sym one ∙ other)

-- words, by the first one, whose bytes these are
pub opened : {X : Type 0} (f : X → List ℕ) (words : List X) (word : X) (bytes : List ℕ) → 1 ≤ length words → word ≡ get_or words 0 word
    → bytes ≡ f word → map f words ≡ bytes ∷ behind_first f words
opened f [] word bytes some is are = absurd (omega (arith, some))
opened f (first ∷ words) word bytes some is are =
    ap (λ l. f first ∷ map f l) (behind (first ∷ words) 1)
    ∙ ap (λ w. w ∷ behind_first f (first ∷ words)) (sym (ap f is) ∙ sym are)

-- what a first word asks for, read off it
abbrev is_word : List ℕ → List ℕ → Bool
is_word word key = pointwise nat_eq word key

abbrev keyword_in : List ℕ → Option Keyword
keyword_in word =
    cond (is_word word (codes "run")) (Some keyword.Run)
    (cond (is_word word (codes "make")) (Some keyword.Make)
    (cond (is_word word (codes "explain")) (Some keyword.Explain)
    (cond (is_word word (codes "print")) (Some keyword.Print)
    (cond (is_word word (codes "disturb")) (Some keyword.Disturb)
    (cond (is_word word (codes "serve")) (Some keyword.Serve)
    (cond (is_word word (codes "show")) (Some keyword.Show)
    (cond (is_word word (codes "frames")) (Some keyword.Frames)
    (cond (is_word word (codes "help")) (Some keyword.Help)
    (cond (is_word word (codes "--help")) (Some keyword.Help)
    (cond (is_word word (codes "-h")) (Some keyword.Help) None))))))))))

keyword_found : (word : List ℕ) (asked : Keyword) → IsKeyword word asked → keyword_in word ≡ Some asked
keyword_found word keyword.Run is = ap keyword_in is
keyword_found word keyword.Make is = ap keyword_in is
keyword_found word keyword.Explain is = ap keyword_in is
keyword_found word keyword.Print is = ap keyword_in is
keyword_found word keyword.Disturb is = ap keyword_in is
keyword_found word keyword.Serve is = ap keyword_in is
keyword_found word keyword.Show is = ap keyword_in is
keyword_found word keyword.Frames is = ap keyword_in is
keyword_found word keyword.Help (inl is) = ap keyword_in is
keyword_found word keyword.Help (inr (inl is)) = ap keyword_in is
keyword_found word keyword.Help (inr (inr is)) = ap keyword_in is

-- so it asks for one thing at most, and `live` for none of them
one_keyword : (word : List ℕ) (one other : Keyword) → IsKeyword word one → IsKeyword word other → one ≡ other
one_keyword word one other first second =
    same_Some one other (sym (keyword_found word one first) ∙ keyword_found word other second)

live_is_no_keyword : (word : List ℕ) (asked : Keyword) → word ≡ codes "live" → IsKeyword word asked → ⊥
live_is_no_keyword word asked live is = none-some asked (ap keyword_in (sym live) ∙ keyword_found word asked is)

-- where the first word is that of no command
pub unworded : (words rest : List (List ℕ)) (word : List ℕ) → words ≡ word ∷ rest → ((key : Keyword) → IsKeyword word key → ⊥)
    → (command : Command) → NameWork words command → ⊥
unworded words rest word are none command named =
    none named.keyword (subst (λ w. IsKeyword w named.keyword) (one_first words named.word word named.behind rest named.are are) named.asks)

-- and where the words behind it write nothing
pub unwritten : (words rest : List (List ℕ)) (word : List ℕ) (asked : Keyword) → words ≡ word ∷ rest → IsKeyword word asked
    → ((command : Command) → WritesAs asked rest command → ⊥) → (command : Command) → NameWork words command → ⊥
unwritten words rest word asked are asks none command named =
    let first = one_first words named.word word named.behind rest named.are are in
    let behind : named.behind ≡ rest = ap (λ l. drop 1 l) (sym named.are ∙ are) in
    let same = one_keyword word named.keyword asked (subst (λ w. IsKeyword w named.keyword) first named.asks) asks in
    let P : Keyword → Type 0 = λ k. WritesAs k named.behind command in
    none command (subst (λ l. WritesAs asked l command) behind (subst P same named.writes))

abbrev address_made : List ℕ → EthernetAddress
address_made bytes = record { 0 = bytes }

abbrev run_made : List ℕ → ℕ → ℕ → RunSettings → RunCommand
run_made bytes seed count settings = record { hardware = address_made bytes; seed = seed; max_events = count; settings = settings }

same_fields : (a w : List ℕ) (b x c y : ℕ) (d z : RunSettings) → a ≡ w → b ≡ x → c ≡ y → d ≡ z → run_made a b c d ≡ run_made w x y z
same_fields a w b x c y d z first second third fourth = rw (first, second, third, fourth) refl

writes_one : (words : List (List ℕ)) (one other : RunCommand) → WritesRun words one → WritesRun words other → one ≡ other
writes_one words one other first second =
    let hardware : one.hardware.0 ≡ other.hardware.0 = cc (first.are, second.are, first.hardware.bytes, second.hardware.bytes) in
    let seed : one.seed ≡ other.seed = cc (first.are, second.are, first.seed.writes.value, second.seed.writes.value) in
    let count : one.max_events ≡ other.max_events = cc (first.are, second.are, first.max.writes.value, second.max.writes.value) in
    let setting_words : second.setting_words ≡ first.setting_words = cc (first.are, second.are) in
    let settings = sets_one first.setting_words one.settings other.settings first.settings
    (subst (λ l. Sets l other.settings) setting_words second.settings) in
    same_fields one.hardware.0 other.hardware.0 one.seed other.seed one.max_events other.max_events one.settings other.settings
    hardware seed count settings

make_made : ℕ → ℕ → MakeCommand
make_made seed count = record { seed = seed; count = count }

writes_one_make : (words : List (List ℕ)) (one other : MakeCommand) → WritesMake words one → WritesMake words other → one ≡ other
unfolding make_made
writes_one_make words one other first second =
    let seed : one.seed ≡ other.seed = cc (first.are, second.are, first.seed.writes.value, second.seed.writes.value) in
    let count : one.count ≡ other.count = cc (first.are, second.are, first.count.writes.value, second.count.writes.value) in
    ap₂ make_made seed count

capture_made : ℕ → CaptureCommand
capture_made count = record { max_frames = count }

writes_one_capture : (words : List (List ℕ)) (one other : CaptureCommand) → WritesCapture words one → WritesCapture words other → one ≡ other
unfolding capture_made
writes_one_capture words one other first second =
    let count : one.max_frames ≡ other.max_frames = cc (first.are, second.are, first.max.writes.value, second.max.writes.value) in
    ap capture_made count

show_made : ℕ → ShowCommand
show_made count = record { max_events = count }

writes_one_show : (words : List (List ℕ)) (one other : ShowCommand) → WritesShow words one → WritesShow words other → one ≡ other
unfolding show_made
writes_one_show words one other first second =
    let count : one.max_events ≡ other.max_events = cc (first.are, second.are, first.max.writes.value, second.max.writes.value) in
    ap show_made count

disturb_made : RunCommand → ℕ → ℕ → ℕ → DisturbCommand
disturb_made run seed drop corrupt = record { run = run; fault_seed = seed; drop_chance = drop; corrupt_chance = corrupt }

same_disturb : (a w : RunCommand) (b x c y d z : ℕ) → a ≡ w → b ≡ x → c ≡ y → d ≡ z → disturb_made a b c d ≡ disturb_made w x y z
same_disturb a w b x c y d z first second third fourth = rw (first, second, third, fourth) refl

writes_one_disturb : (words : List (List ℕ)) (one other : DisturbCommand) → WritesDisturb words one → WritesDisturb words other → one ≡ other
unfolding disturb_made
writes_one_disturb words one other first second =
    let hardware : one.run.hardware.0 ≡ other.run.hardware.0 = first.hardware.bytes ∙ sym second.hardware.bytes in
    let run : one.run ≡ other.run = same_fields one.run.hardware.0 other.run.hardware.0 one.run.seed other.run.seed
    one.run.max_events other.run.max_events one.run.settings other.run.settings hardware
    (first.seed.writes.value ∙ sym second.seed.writes.value) (first.max.writes.value ∙ sym second.max.writes.value)
    (first.plain ∙ sym second.plain) in
    same_disturb one.run other.run one.fault_seed other.fault_seed one.drop_chance other.drop_chance one.corrupt_chance other.corrupt_chance
    run (first.fault_seed.writes.value ∙ sym second.fault_seed.writes.value) (first.drop.writes.value ∙ sym second.drop.writes.value)
    (first.corrupt.writes.value ∙ sym second.corrupt.writes.value)

-- words without `live` name one command at most
writes_same : (asked : Keyword) (words : List (List ℕ)) (one other : Command) → WritesAs asked words one → WritesAs asked words other → one ≡ other
writes_same keyword.Run words one other (a, is, first) (b, also, second) = is ∙ ap Run (writes_one words a b first second) ∙ sym also
writes_same keyword.Make words one other (a, is, first) (b, also, second) = is ∙ ap Make (writes_one_make words a b first second) ∙ sym also
writes_same keyword.Explain words one other (a, is, first) (b, also, second) =
    is ∙ ap Explain (writes_one_capture words a b first second) ∙ sym also
writes_same keyword.Print words one other (a, is, first) (b, also, second) =
    is ∙ ap Print (writes_one_capture words a b first second) ∙ sym also
writes_same keyword.Help words one other (is, none) (also, nor) = is ∙ sym also
writes_same keyword.Disturb words one other (a, is, first) (b, also, second) =
    is ∙ ap Disturb (writes_one_disturb words a b first second) ∙ sym also
writes_same keyword.Serve words one other (a, is, first) (b, also, second) =
    is ∙ ap Serve (writes_one_serve words a b first second) ∙ sym also
writes_same keyword.Show words one other (a, is, first) (b, also, second) =
    is ∙ ap Show (writes_one_show words a b first second) ∙ sym also
writes_same keyword.Frames words one other (a, is, first) (b, also, second) =
    is ∙ ap Frames (writes_one_show words a b first second) ∙ sym also

pub one_work : (words : List (List ℕ)) (one other : Command) → NameWork words one → NameWork words other → one ≡ other
one_work words one other first second =
    let word = one_first words second.word first.word second.behind first.behind second.are first.are in
    let behind : second.behind ≡ first.behind = ap (λ l. drop 1 l) (sym second.are ∙ first.are) in
    let same = one_keyword first.word second.keyword first.keyword (subst (λ w. IsKeyword w second.keyword) word second.asks) first.asks in
    let P : Keyword → Type 0 = λ k. WritesAs k second.behind other in
    writes_same first.keyword first.behind one other first.writes
    (subst (λ l. WritesAs first.keyword l other) behind (subst P same second.writes))

-- no command without `live` has it for its first word
pub live_is_no_work : (words rest : List (List ℕ)) (command : Command) → words ≡ codes "live" ∷ rest → NameWork words command → ⊥
live_is_no_work words rest command are named =
    live_is_no_keyword named.word named.keyword (one_first words named.word (codes "live") named.behind rest named.are are) named.asks

-- words name one command at most
pub names_one : NamesOne
names_one words one other (inl first) (inl second) = one_work words one other first second
names_one words one other (inl first) (inr second) = absurd (live_is_no_work words second.behind one second.are first)
names_one words one other (inr first) (inl second) = absurd (live_is_no_work words first.behind other first.are second)
names_one words one other (inr first) (inr second) =
    let same : second.behind ≡ first.behind = cc (first.are, second.are) in
    one_work first.behind one other first.live.work (subst (λ l. NameWork l other) same second.live.work)

-- where the words behind `live` name no command that can be
pub unlive : {X : Type 0} (f : X → List ℕ) (words : List X)
    → ((command : Command) → NameLiveWork (behind_first f words) command → ⊥)
    → map f words ≡ codes "live" ∷ behind_first f words → IsTaken (map f words) → ⊥
unlive f words none are (command, inl named) = live_is_no_work (map f words) (behind_first f words) command are named
unlive f words none are (command, inr named) =
    none command (subst (λ l. NameLiveWork l command) (ap (λ l. drop 1 l) (sym named.are ∙ are)) named.live)

-- and where words that do not begin with `live` name none
pub unplain : {X : Type 0} (f : X → List ℕ) (words : List X) → ((command : Command) → NameWork (map f words) command → ⊥)
    → ((behind : List (List ℕ)) → map f words ≡ codes "live" ∷ behind → ⊥) → IsTaken (map f words) → ⊥
unplain f words none other (command, inl named) = none command named
unplain f words none other (command, inr named) = other named.behind named.are

-- words that begin with another word
pub not_opened : (words rest : List (List ℕ)) (word : List ℕ) → words ≡ word ∷ rest → (word ≡ codes "live" → ⊥)
    → (behind : List (List ℕ)) → words ≡ codes "live" ∷ behind → ⊥
not_opened words rest word are other behind is = other (one_first words word (codes "live") rest behind are is)

-- words whose command cannot be live
pub not_live : (words : List (List ℕ)) (command : Command) → NameWork words command → (CanBeLive command → ⊥)
    → (other : Command) → NameLiveWork words other → ⊥
not_live words command named never other live = never (subst CanBeLive (one_work words other command live.work named) live.can)

-- words that name no command, or ask how the program is used, ask for no work
pub no_work : (words : List (List ℕ)) (asked : Option Command) → Ask words asked → AskForNoWork words → (asked ≡ None) ⊎ (asked ≡ Some Help)
no_work words None asks none = inl refl
no_work words (Some command) asks (inl none) = absurd (none (command, asks))
no_work words (Some command) asks (inr help) = inr (ap Some (names_one words command Help asks (inl help)))

-- a run that words write relies on nothing more
runnable : (words : List (List ℕ)) (run : RunCommand) → WritesRun words run → IsRunnable run
runnable words run writes = record {
  individual = writes.hardware.individual;
  mtu = mtu_in_range writes.setting_words run.settings writes.settings;
  some = writes.max.some;
  limit = writes.max.limit;
}

-- and so one that makes its script
makeable : (words : List (List ℕ)) (make : MakeCommand) → WritesMake words make → IsRunnable (run_of_make make)
makeable words make writes = record { individual = refl; mtu = tt; some = writes.count.some; limit = writes.count.limit }

readable : (words : List (List ℕ)) (capture : CaptureCommand) → WritesCapture words capture → IsReadable capture
readable words capture writes = record { some = writes.max.some; limit = writes.max.limit }

showable : (words : List (List ℕ)) (show : ShowCommand) → WritesShow words show → IsShowable show
showable words show writes = record { limit = writes.max.limit }

-- and so one over a bad link
disturbable : (words : List (List ℕ)) (disturb : DisturbCommand) → WritesDisturb words disturb → IsDisturbable disturb
disturbable words disturb writes = record {
  run = record {
    individual = writes.hardware.individual;
    mtu = subst (λ (s : RunSettings). IfSome s.ip_mtu (λ bytes. (576 ≤ bytes) × (bytes ≤ 1500))) (sym writes.plain) tt;
    some = writes.max.some;
    limit = writes.max.limit;
  };
  drop = writes.drop.limit;
  corrupt = writes.corrupt.limit;
}

written_command : (asked : Keyword) (words : List (List ℕ)) (command : Command) → WritesAs asked words command → IsCommand command
written_command keyword.Run words command (run, is, writes) = subst IsCommand (sym is) (runnable words run writes)
written_command keyword.Make words command (make, is, writes) = subst IsCommand (sym is) (makeable words make writes)
written_command keyword.Explain words command (capture, is, writes) = subst IsCommand (sym is) (readable words capture writes)
written_command keyword.Print words command (capture, is, writes) = subst IsCommand (sym is) (readable words capture writes)
written_command keyword.Help words command (is, none) = subst IsCommand (sym is) tt
written_command keyword.Disturb words command (disturb, is, writes) = subst IsCommand (sym is) (disturbable words disturb writes)
written_command keyword.Serve words command (serve, is, writes) = subst IsCommand (sym is) (servable words serve writes)
written_command keyword.Show words command (show, is, writes) = subst IsCommand (sym is) (showable words show writes)
written_command keyword.Frames words command (frames, is, writes) = subst IsCommand (sym is) (showable words frames writes)

work_command : (words : List (List ℕ)) (command : Command) → NameWork words command → IsCommand command
work_command words command named = written_command named.keyword named.behind command named.writes

named_command : (words : List (List ℕ)) (command : Command) → Names words command → IsCommand command
named_command words command (inl named) = work_command words command named
named_command words command (inr named) = work_command named.behind command named.live.work

-- with `live` or without it
are_names : (words : List (List ℕ)) (asked : Asked) → AreNamed words asked → Names words asked.command
are_names words asked (inl plain) = inl plain.1
are_names words asked (inr live) = inr live.1

pub asked_command : (words : List (List ℕ)) (asked : Option Asked) → IfSome asked (AreNamed words) → IfSome (command_asked asked) IsCommand
asked_command words None found = tt
asked_command words (Some asked) found = named_command words asked.command (are_names words asked found)

pub asked_by : (words : List (List ℕ)) (asked : Option Asked) → IfSome asked (AreNamed words) → IfNone asked (IsTaken words → ⊥)
    → Ask words (command_asked asked)
asked_by words None found refuses = refuses
asked_by words (Some asked) found refuses = are_names words asked found

-- words that name a command that only reads ask for that
pub asked_to_read : (words : List (List ℕ)) (asked : Option Command) (named : AskToRead words) → Ask words asked → asked ≡ Some named.0
asked_to_read words None named none = absurd (none (named.0, inl named.1))
asked_to_read words (Some command) named asks = ap Some (names_one words command named.0 asks (inl named.1))

mtu_or_default : (value : Option ℕ) → IfSome value (λ bytes. (576 ≤ bytes) × (bytes ≤ 1500))
    → (576 ≤ unwrap_or value 1500) × (unwrap_or value 1500 ≤ 1500)
mtu_or_default None range = (omega arith, omega arith)
mtu_or_default (Some bytes) range = range

-- its settings are refused by no host
pub accepted : (run : RunCommand) (settings : Settings) (error : HostConfigError) → IsRunnable run → settings ≡ settings_named run
    → Some error ≡ refusal_of settings → ⊥
accepted run settings error may is refused =
    let mtu = mtu_or_default run.settings.ip_mtu may.mtu in
    let none : refusal_of (settings_named run) ≡ None =
    defaults_accepted run.hardware (unwrap_or run.settings.ip_mtu 1500) (option_map (λ secs. secs * 1000000) run.settings.max_lease_secs)
    (unwrap_or run.settings.ignore_naks false) may.individual mtu.0 mtu.1 in
    none-some error (sym (refused ∙ ap refusal_of is ∙ none))
