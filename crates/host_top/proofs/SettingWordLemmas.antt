-- Words that set something of a run, one after another.
use Rattle.std.proofs.Common.{◌≡◌, ℕ, ◌+◌, ◌<◌, ◌≤◌, List, [], ◌∷◌, ◌++◌, length, length-append, get_or, take, map, Option, None, Some, IfSome, refl, ap, subst, arith}
use Rattle.std.specs.List.{All, AllPairs, AllZip}
use Rattle.std.proofs.lemmas.List.{get_or_append_left, get_or_at}
use Rattle.std.proofs.lemmas.List.Elements.{All-nil, All-cons, All-contains}
use Rattle.std.proofs.lemmas.List.Quantifiers.{all_pairs_push}
use Rattle.host_top.specs.declared.setting.RunSettings.{RunSettings}
use Rattle.host_top.specs.declared.setting.Setting.{Setting}
use Rattle.host_top.specs.declared.setting.Setting.TheVariants.{Mtu, Lease, IgnoreNaks}
use Rattle.host_top.specs.Setting.{SpellsSetting, HaveOtherKeys, IsNewKey, IsValueIn, Say, Sets}
use Rattle.host_top.proofs.OneSettingLemmas.{spells_one}
use Rattle.host_top.proofs.WalkLemmas.{split_at, front_more}

nothing : {X : Type 0} (make : X → Setting) → IsValueIn [] make None
nothing make = λ x. (λ some. absurd (cc), λ there. absurd (omega (arith, there.1)))

-- no words say nothing
pub sets_nothing : Sets [] record { ip_mtu = None; max_lease_secs = None; ignore_naks = None }
sets_nothing = record {
  settings = [];
  are = record { spelled = tt; once = λ i j d before within. absurd (omega (arith, within)) };
  say = record { mtu = nothing Mtu; lease = nothing Lease; naks = nothing IgnoreNaks };
}

spelled_push : (words : List (List ℕ)) (settings : List Setting) (word : List ℕ) (setting : Setting) → AllZip SpellsSetting words settings
    → SpellsSetting word setting → AllZip SpellsSetting (words ++ word ∷ []) (settings ++ setting ∷ [])
spelled_push [] [] word setting all spells = (spells, tt)
spelled_push [] (s ∷ settings) word setting all spells = absurd all
spelled_push (w ∷ words) [] word setting all spells = absurd all
spelled_push (w ∷ words) (s ∷ settings) word setting all spells = (all.0, spelled_push words settings word setting all.1 spells)

-- one word more
sets_more : (words : List (List ℕ)) (said after : RunSettings) (word : List ℕ) (setting : Setting) → Sets words said → SpellsSetting word setting
    → ((settings : List Setting) → Say settings said → IsNewKey settings setting × Say (settings ++ setting ∷ []) after)
    → Sets (words ++ word ∷ []) after
sets_more words said after word setting sets spells more = record {
  settings = sets.settings ++ setting ∷ [];
  are = record {
    spelled = spelled_push words sets.settings word setting sets.are.spelled spells;
    once = all_pairs_push HaveOtherKeys sets.settings setting sets.are.once (more sets.settings sets.say).0;
  };
  say = (more sets.settings sets.say).1;
}

spelled_front : (front rest : List (List ℕ)) (word : List ℕ) (settings all : List Setting) (setting : Setting) → AllZip SpellsSetting front settings
    → SpellsSetting word setting → AllZip SpellsSetting (front ++ word ∷ rest) all → (more : List Setting) × (all ≡ settings ++ setting ∷ more)
spelled_front [] rest word [] [] setting before spells whole = absurd whole
spelled_front [] rest word [] (s ∷ all) setting before spells whole =
    (all, ap (λ a. a ∷ all) (spells_one word s setting whole.0 spells))
spelled_front [] rest word (t ∷ settings) all setting before spells whole = absurd before
spelled_front (w ∷ front) rest word [] all setting before spells whole = absurd before
spelled_front (w ∷ front) rest word (t ∷ settings) [] setting before spells whole = absurd whole
spelled_front (w ∷ front) rest word (t ∷ settings) (s ∷ all) setting before spells whole =
    let tails = spelled_front front rest word settings all setting before.1 spells whole.1 in
    let heads = spells_one w s t whole.0 before.0 in
    (tails.0, cc (tails.1, heads))

new_among : (front more : List Setting) (setting : Setting) → AllPairs HaveOtherKeys (front ++ setting ∷ more) → IsNewKey front setting
new_among front more setting once = λ k d within.
    let P : Setting → Type 0 = λ s. HaveOtherKeys s setting in
    let Q : Setting → Type 0 = λ s. HaveOtherKeys (get_or (front ++ setting ∷ more) k d) s in
    subst P (get_or_append_left front (setting ∷ more) d k within)
    (subst Q (get_or_at front setting more d (length front) refl)
    (once k (length front) d within (omega (arith, length-append front (setting ∷ more)))))

spelled_at : (front rest : List (List ℕ)) (word : List ℕ) (all : List Setting) → AllZip SpellsSetting (front ++ word ∷ rest) all
    → (setting : Setting) × SpellsSetting word setting
spelled_at [] rest word [] whole = absurd whole
spelled_at [] rest word (s ∷ all) whole = (s, whole.0)
spelled_at (w ∷ front) rest word [] whole = absurd whole
spelled_at (w ∷ front) rest word (s ∷ all) whole = spelled_at front rest word all whole.1

-- a word that spells no setting
unspelled : (front rest : List (List ℕ)) (word : List ℕ) (said : RunSettings) → ((setting : Setting) → SpellsSetting word setting → ⊥)
    → Sets (front ++ word ∷ rest) said → ⊥
unspelled front rest word said none sets = let at = spelled_at front rest word sets.settings sets.are.spelled in none at.0 at.1

-- a word whose key an earlier one has
key_twice : (front rest : List (List ℕ)) (word : List ℕ) (setting : Setting) (said : RunSettings) (whole : RunSettings) → Sets front said
    → SpellsSetting word setting → ((settings : List Setting) → Say settings said → IsNewKey settings setting → ⊥)
    → Sets (front ++ word ∷ rest) whole → ⊥
key_twice front rest word setting said whole before spells old sets =
    let all = spelled_front front rest word before.settings sets.settings setting before.are.spelled spells sets.are.spelled in
    old before.settings before.say (new_among before.settings all.0 setting (subst (AllPairs HaveOtherKeys) all.1 sets.are.once))

-- in a walk along words: a word that spells no setting
pub unspelled_at : {X : Type 0} (f : X → List ℕ) (words : List X) (i : ℕ) (word : X) (bytes : List ℕ) (said : RunSettings) → i < length words
    → word ≡ get_or words i word → bytes ≡ f word → ((setting : Setting) → SpellsSetting bytes setting → ⊥) → Sets (map f words) said → ⊥
unspelled_at f words i word bytes said within is are none sets =
    let split = split_at f words i word within is in
    unspelled (map f (take i words)) split.0 (f word) said (subst (λ l. (setting : Setting) → SpellsSetting l setting → ⊥) are none)
    (subst (λ l. Sets l said) split.1 sets)

-- a word whose key an earlier one has
pub key_twice_at : {X : Type 0} (f : X → List ℕ) (words : List X) (i : ℕ) (word : X) (bytes : List ℕ) (setting : Setting) (said whole : RunSettings)
    → i < length words → word ≡ get_or words i word → bytes ≡ f word → Sets (map f (take i words)) said → SpellsSetting bytes setting
    → ((settings : List Setting) → Say settings said → IsNewKey settings setting → ⊥) → Sets (map f words) whole → ⊥
key_twice_at f words i word bytes setting said whole within is are before spells old sets =
    let split = split_at f words i word within is in
    key_twice (map f (take i words)) split.0 (f word) setting said whole before (subst (λ l. SpellsSetting l setting) are spells) old
    (subst (λ l. Sets l whole) split.1 sets)

-- a word more
pub sets_more_at : {X : Type 0} (f : X → List ℕ) (words : List X) (i : ℕ) (word : X) (bytes : List ℕ) (setting : Setting) (said after : RunSettings)
    → i < length words → word ≡ get_or words i word → bytes ≡ f word → Sets (map f (take i words)) said → SpellsSetting bytes setting
    → ((settings : List Setting) → Say settings said → IsNewKey settings setting × Say (settings ++ setting ∷ []) after)
    → Sets (map f (take (i + 1) words)) after
sets_more_at f words i word bytes setting said after within is are before spells more =
    subst (λ l. Sets l after) (front_more f words i word within is)
    (sets_more (map f (take i words)) said after (f word) setting before (subst (λ l. SpellsSetting l setting) are spells) more)

spelled_all : (words : List (List ℕ)) (settings : List Setting) → AllZip SpellsSetting words settings
    → All (λ setting. (word : List ℕ) × SpellsSetting word setting) settings
spelled_all [] [] all = All-nil (λ setting. (word : List ℕ) × SpellsSetting word setting)
spelled_all [] (s ∷ settings) all = absurd all
spelled_all (w ∷ words) [] all = absurd all
spelled_all (w ∷ words) (s ∷ settings) all =
    All-cons (λ setting. (word : List ℕ) × SpellsSetting word setting) s settings (w, all.0) (spelled_all words settings all.1)

spelled_mtu : (words : List (List ℕ)) (settings : List Setting) (value : Option ℕ) → AllZip SpellsSetting words settings
    → IsValueIn settings Mtu value → IfSome value (λ bytes. (576 ≤ bytes) × (bytes ≤ 1500))
spelled_mtu words settings None all says = tt
spelled_mtu words settings (Some bytes) all says =
    let spelled = All-contains (λ setting. (word : List ℕ) × SpellsSetting word setting) settings (Mtu bytes) (spelled_all words settings all)
    ((says bytes).0 refl) in
    (spelled.1.writes.least, spelled.1.writes.most)

-- the MTU that words set is one of Ethernet
pub mtu_in_range : (words : List (List ℕ)) (said : RunSettings) → Sets words said → IfSome said.ip_mtu (λ bytes. (576 ≤ bytes) × (bytes ≤ 1500))
mtu_in_range words said sets = spelled_mtu words sets.settings said.ip_mtu sets.are.spelled sets.say.mtu
