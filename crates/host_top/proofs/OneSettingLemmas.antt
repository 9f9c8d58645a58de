-- Words spell one list of settings at most, which says one thing at most.
use Rattle.std.proofs.Common.{◌≡◌, ℕ, Bool, true, false, List, [], ◌∷◌, get_or, drop, Option, None, Some, refl, sym, ◌∙◌, ap, subst, arith}
use Rattle.std.specs.List.{AllZip}
use Rattle.host_top.specs.declared.setting.RunSettings.{RunSettings}
use Rattle.host_top.specs.declared.setting.Setting.{Setting}
use Rattle.host_top.specs.declared.setting.Setting.TheVariants.{Mtu, Lease, IgnoreNaks}
use Rattle.host_top.specs.Setting.{SpellsSetting, IsValueIn, Say, Sets}

heads : (word one other : List ℕ) → word ≡ one → word ≡ other → get_or one 0 0 ≡ get_or other 0 0
heads word one other first second = ap (λ l. get_or l 0 0) (sym first ∙ second)

behind : (word one other : List ℕ) → word ≡ one → word ≡ other → drop 5 one ≡ drop 5 other
behind word one other first second = ap (drop 5) (sym first ∙ second)

-- a word spells one setting at most
pub spells_one : (word : List ℕ) (one other : Setting) → SpellsSetting word one → SpellsSetting word other → one ≡ other
spells_one word (Mtu x) (Mtu y) first second = cc (first.is, second.is, first.writes.writes.value, second.writes.writes.value)
spells_one word (Lease x) (Lease y) first second = cc (first.is, second.is, first.writes.writes.value, second.writes.writes.value)
spells_one word (IgnoreNaks true) (IgnoreNaks true) first second = refl
spells_one word (IgnoreNaks false) (IgnoreNaks false) first second = refl
spells_one word (IgnoreNaks true) (IgnoreNaks false) first second =
    let same : first.value_word ≡ second.value_word = behind word _ _ first.is second.is in
    let first_letters : 105 ≡ 111 = heads first.value_word _ _ first.writes (same ∙ second.writes) in
    absurd (omega (arith, first_letters))
spells_one word (IgnoreNaks false) (IgnoreNaks true) first second =
    let same : first.value_word ≡ second.value_word = behind word _ _ first.is second.is in
    let first_letters : 111 ≡ 105 = heads first.value_word _ _ first.writes (same ∙ second.writes) in
    absurd (omega (arith, first_letters))
spells_one word (Mtu x) (Lease y) first second =
    let first_letters : 109 ≡ 108 = heads word _ _ first.is second.is in absurd (omega (arith, first_letters))
spells_one word (Mtu x) (IgnoreNaks y) first second =
    let first_letters : 109 ≡ 110 = heads word _ _ first.is second.is in absurd (omega (arith, first_letters))
spells_one word (Lease x) (Mtu y) first second =
    let first_letters : 108 ≡ 109 = heads word _ _ first.is second.is in absurd (omega (arith, first_letters))
spells_one word (Lease x) (IgnoreNaks y) first second =
    let first_letters : 108 ≡ 110 = heads word _ _ first.is second.is in absurd (omega (arith, first_letters))
spells_one word (IgnoreNaks x) (Mtu y) first second =
    let first_letters : 110 ≡ 109 = heads word _ _ first.is second.is in absurd (omega (arith, first_letters))
spells_one word (IgnoreNaks x) (Lease y) first second =
    let first_letters : 110 ≡ 108 = heads word _ _ first.is second.is in absurd (omega (arith, first_letters))

spelled_one : (words : List (List ℕ)) (one other : List Setting) → AllZip SpellsSetting words one → AllZip SpellsSetting words other → one ≡ other
spelled_one [] [] [] first second = refl
spelled_one [] [] (t ∷ other) first second = absurd second
spelled_one [] (s ∷ one) other first second = absurd first
spelled_one (w ∷ words) [] other first second = absurd first
spelled_one (w ∷ words) (s ∷ one) [] first second = absurd second
spelled_one (w ∷ words) (s ∷ one) (t ∷ other) first second =
    let heads = spells_one w s t first.0 second.0 in
    let tails = spelled_one words one other first.1 second.1 in
    cc (heads, tails)

same_value : {X : Type 0} (settings : List Setting) (make : X → Setting) (one other : Option X) → IsValueIn settings make one
    → IsValueIn settings make other → one ≡ other
same_value settings make None None first second = refl
same_value settings make None (Some y) first second = (first y).1 ((second y).0 refl)
same_value settings make (Some x) other first second = sym ((second x).1 ((first x).0 refl))

abbrev said_of : Option ℕ → Option ℕ → Option Bool → RunSettings
said_of bytes secs ignored = record { ip_mtu = bytes; max_lease_secs = secs; ignore_naks = ignored }

same_fields : (a x b y : Option ℕ) (c z : Option Bool) → a ≡ x → b ≡ y → c ≡ z → said_of a b c ≡ said_of x y z
same_fields a x b y c z first second third = rw (first, second, third) refl

-- words say one thing at most
pub sets_one : (words : List (List ℕ)) (one other : RunSettings) → Sets words one → Sets words other → one ≡ other
sets_one words one other first second =
    let same = spelled_one words first.settings second.settings first.are.spelled second.are.spelled in
    let say : Say first.settings other = subst (λ l. Say l other) (sym same) second.say in
    let mtu = same_value first.settings Mtu one.ip_mtu other.ip_mtu first.say.mtu say.mtu in
    let lease = same_value first.settings Lease one.max_lease_secs other.max_lease_secs first.say.lease say.lease in
    let naks = same_value first.settings IgnoreNaks one.ignore_naks other.ignore_naks first.say.naks say.naks in
    same_fields one.ip_mtu other.ip_mtu one.max_lease_secs other.max_lease_secs one.ignore_naks other.ignore_naks mtu lease naks
