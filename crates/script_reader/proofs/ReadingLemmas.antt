-- Pieces of bytes that a source gives.
use Rattle.std.proofs.Common.{◌≡◌, ℕ, ◌+◌, ◌^◌, ◌<◌, ◌≤◌, List, [], ◌∷◌, ◌++◌, length, take, drop, ap, sym, ◌∙◌, refl, arith}
use Rattle.std.proofs.Common.{◌⊎◌, inl, inr, ⊎_elim, leb, false, get_or, subst, Option, Some, None, IfSome, append-nil, length-append, ℤ, pos}
use Rattle.std.specs.Int.{from_be_bytes, to_be_bytes, w16, w64}
use Rattle.std.specs.Io.KnownBytes.{Consumes}
use Rattle.std.proofs.KnownBytes.{Consumes-trans}
use Rattle.std.proofs.lemmas.Nat.{be_bytes_8}
use Rattle.std.proofs.lemmas.List.{take-append-drop, drop-drop, take_at, length-take, take-append-le}
use Rattle.std.proofs.Math.Seq.{take-append-add}
use Rattle.phy_layers.specs.PcapBytes.{epoch_micros}
use Rattle.host_model.specs.Script.{Event, head_with, name_part, time_limit, BeginsNoEvent}
use Rattle.host_model.specs.Parts.{IsKind, IsInside, IsWrongKind, IsWrongTime, IsWrongType, IsWrongName, IsRefused}
use Rattle.host_model.proofs.PartLemmas.{refused, cut_off}
use Rattle.script_reader.specs.declared.script.KindByte.{KindByte}
use Rattle.script_reader.specs.declared.script.KindByte.TheVariants as kind
use Rattle.script_reader.specs.Head.{byte_of}
use Rattle.script_reader.specs.ReaderState.{ReaderState}
use Rattle.script_reader.specs.Reading.{event_at, event_with, EndsInside, EndsWith, GivesNext, GivesEvent}
use Rattle.script_reader.specs.declared.script.EventHead.{EventHead}
use Rattle.script_reader.specs.declared.script.ScriptEvent.{ScriptEvent}
use Rattle.script_reader.specs.declared.script.ReadEventError.{ReadEventError}
use Rattle.script_reader.specs.declared.script.ReadEventError.TheVariants as script
use Rattle.std.proofs.lemmas.Bool.Decides.{nat_tests}

-- a list of one number
pub one_byte : (bytes : List ℕ) (value : ℕ) → length bytes ≡ 1 → get_or bytes 0 0 ≡ value → bytes ≡ value ∷ []
one_byte [] value short is_value = absurd (omega (arith, short))
one_byte (byte ∷ []) value short is_value = ap (λ b. b ∷ []) is_value
one_byte (byte ∷ other ∷ bytes) value long is_value = absurd (omega (arith, long))

-- a kind and what was read behind it
pub kind_and_time : (old mid new : Option (List ℕ)) (kind time : List ℕ) (value : ℕ) → length kind ≡ 1 → get_or kind 0 0 ≡ value
    → Consumes old mid kind → Consumes mid new time → Consumes old new (value ∷ [] ++ time)
kind_and_time old mid new kind time value is_one is_value first second =
    let P : List ℕ → Type 0 = λ l. Consumes old new (l ++ time) in
    subst P (one_byte kind value is_one is_value) (Consumes-trans old mid new kind time first second)

-- the byte of a kind names one
pub known : (kind : KindByte) → IsKind (byte_of kind)
known kind.Frame = (omega arith, omega arith)
known kind.Tick = (omega arith, omega arith)
known kind.Query = (omega arith, omega arith)
known kind.Reset = (omega arith, omega arith)
known kind.TypedQuery = (omega arith, omega arith)

-- no part, or a part of a time
pub in_kind : (last : ℕ) (part : List ℕ) → length part < 1 → IsInside last part
in_kind last [] short = inl refl
in_kind last (byte ∷ part) short = absurd (omega (arith, short))

pub in_time : (last : ℕ) (kind : KindByte) (time : List ℕ) → length time < 8 → IsInside last (byte_of kind ∷ [] ++ time)
in_time last kind time short = inr (inl (record { kind = byte_of kind; known = known kind; time = time; whole = refl; short = short }))

-- a time that is refused
pub wrong_time : (last micros : ℕ) (kind : KindByte) (time : List ℕ) → length time ≡ 8 → ((i : ℕ) → get_or time i 0 < 256)
    → micros ≡ from_be_bytes w64 time → micros < 2 ^ 64 → (micros < last) ⊎ (time_limit ≤ micros) → IsRefused last (byte_of kind ∷ [] ++ time)
wrong_time last micros kind time is_long are_bytes number fits wrong = inr (inl (record {
  kind = byte_of kind;
  known = known kind;
  at = micros;
  fits = fits;
  whole = ap (λ l. byte_of kind ∷ [] ++ l) (sym (be_bytes_8 time micros is_long are_bytes number));
  wrong = wrong;
}))

-- and a kind
pub wrong_kind : (last value : ℕ) (kind : List ℕ) → length kind ≡ 1 → get_or kind 0 0 ≡ value → (IsKind value → ⊥) → IsRefused last kind
wrong_kind last value kind is_one is_value unknown = inl (record { kind = value; whole = one_byte kind value is_one is_value; unknown = unknown })

-- what a part that is refused, or that the input ends in, says of what was left
pub no_event : (last : ℕ) (left_old left_new : Option (List ℕ)) (part : List ℕ) → Consumes left_old left_new part
    → IsRefused last part ⊎ EndsInside last left_new part → IfSome left_old (BeginsNoEvent last)
no_event last None left_new part took ends = tt
no_event last (Some bytes) None part took ends = absurd took
no_event last (Some bytes) (Some more) part took (inl wrong) =
    let P : List ℕ → Type 0 = BeginsNoEvent last in
    subst P (sym took) (refused last part more wrong)
no_event last (Some bytes) (Some more) part took (inr ends) =
    let P : List ℕ → Type 0 = BeginsNoEvent last in
    let all : bytes ≡ part = took ∙ ap (λ l. part ++ l) ends.at_end ∙ append-nil part in
    subst P (sym all) (cut_off last part ends.inside)

-- what was taken was there
pub some_left : (left_old left_new : Option (List ℕ)) (part : List ℕ) → Consumes left_old left_new part → 0 < length part
    → IfSome left_old (λ bytes. 0 < length bytes)
some_left None left_new part took some = tt
some_left (Some bytes) None part took some = absurd took
some_left (Some bytes) (Some more) part took some =
    let counted : length bytes ≡ length (part ++ more) = ap length took in omega (arith, counted, length-append part more)

-- a part that is refused has bytes
refused_some : (last : ℕ) (part : List ℕ) → IsRefused last part → 0 < length part
refused_some last part wrong =
    ⊎_elim
    (λ (kind : IsWrongKind part). let counted : length part ≡ 1 = ap length kind.whole in omega (arith, counted))
    (⊎_elim
    (λ (time : IsWrongTime last part).
    let counted : length part ≡ length (head_with time.kind time.at) = ap length time.whole in omega (arith, counted))
    (⊎_elim
    (λ (type_ : IsWrongType last part).
    let number = to_be_bytes w16 type_.number in
    let counted : length part ≡ length (head_with 5 type_.at ++ number) = ap length type_.whole in
    omega (arith, counted, length-append (head_with 5 type_.at) number))
    (λ (name : IsWrongName last part).
    let counted : length part ≡ length (name.head ++ name_part name.name) = ap length name.whole in
    omega (arith, counted, length-append name.head (name_part name.name)))))
    wrong

-- what a refusal says of what was left
ends_script : (last : ℕ) (left_old left_new : Option (List ℕ)) (part : List ℕ) → Consumes left_old left_new part
    → IsRefused last part ⊎ EndsInside last left_new part → IfSome left_old (λ bytes. (0 < length bytes) × BeginsNoEvent last bytes)
ends_script last None left_new part took ends = tt
ends_script last (Some bytes) left_new part took ends =
    let some : 0 < length part =
    ⊎_elim (λ (wrong : IsRefused last part). refused_some last part wrong) (λ (inside : EndsInside last left_new part). inside.some) ends in
    (some_left (Some bytes) left_new part took some, no_event last (Some bytes) left_new part took ends)

-- and what the reader says of it, by its answer
pub says_script : (error : ReadEventError) (offset max events last : ℕ) (left_old left_new : Option (List ℕ))
    → ((o : ℕ) → error ≡ script.Script o → (o ≡ offset) × (leb max events ≡ false))
    → (part : List ℕ) → Consumes left_old left_new part → EndsWith error last left_new part
    → (o : ℕ) → error ≡ script.Script o
    → (o ≡ offset) × (events < max) × IfSome left_old (λ bytes. (0 < length bytes) × BeginsNoEvent last bytes)
says_script (script.Script at) offset max events last left_old left_new says part took ends = λ o is.
    let told = says o is in
    (told.0, grind (arith, nat_tests, told.1), ends_script last left_old left_new part took ends)
says_script script.Limit offset max events last left_old left_new says part took ends = λ o is. cc
says_script script.Read offset max events last left_old left_new says part took ends = λ o is. cc

-- an event that was read, with its time
pub given_event : (max : ℕ) (old new : ReaderState) (left_old left_new : Option (List ℕ)) (head : EventHead) (at : ℤ) (event : ScriptEvent)
    → GivesNext max old new left_old left_new (event_with head new.brought) → event_at at event ≡ event_with head new.brought → at ≡ pos head.micros
    → GivesEvent max old new left_old left_new at event
given_event max old new left_old left_new head at event gives is_event is_time =
    let P : Event → Type 0 = λ e. GivesNext max old new left_old left_new e in
    record { time = is_time ∙ ap pos (sym (ap epoch_micros is_time)); gives = subst P (sym is_event) gives }
