-- Settings, and what lists of them say.
use Rattle.std.proofs.Common.{◌≡◌, inl, inr, ℕ, Bool, true, false, List, [], ◌∷◌, ◌++◌, get_or, Option, None, Some, refl, ap, subst}
use Rattle.std.specs.Option.{is_some}
use Rattle.std.specs.List.{Contains}
use Rattle.std.proofs.lemmas.List.Elements.{Contains-get_or, Contains-append_left, Contains-push, Contains-push_cases, All-contains}
use Rattle.host_top.specs.declared.setting.RunSettings.{RunSettings}
use Rattle.host_top.specs.declared.setting.Setting.{Setting}
use Rattle.host_top.specs.declared.setting.Setting.TheVariants.{Mtu, Lease, IgnoreNaks}
use Rattle.host_top.specs.Setting.{key_of, HaveOtherKeys, IsNewKey, IsValueIn, Say}

-- what a test of an option says
pub none_of : {X : Type 0} (value : Option X) → is_some value ≡ false → value ≡ None
none_of None is = refl
none_of (Some x) is = absurd (cc)

pub some_of : {X : Type 0} (value : Option X) → is_some value ≡ true → (x : X) × (value ≡ Some x)
some_of None is = absurd (cc)
some_of (Some x) is = (x, refl)

-- a key whose value none of the settings has
pub new_key : {X : Type 0} (make : X → Setting) (value : Option X) (settings : List Setting) (setting : Setting) → IsValueIn settings make value
    → ((one : Setting) → key_of one ≡ key_of setting → (x : X) × (one ≡ make x)) → value ≡ None → IsNewKey settings setting
new_key {X} make value settings setting says made none = λ k d within same.
    let one = made (get_or settings k d) same in
    let there : Contains settings (make one.0) = subst (λ (s : Setting). Contains settings s) one.1 (Contains-get_or settings k d within) in
    let some : value ≡ Some one.0 = (says one.0).1 there in
    cc

-- a key that a setting of the list has
pub old_key : {X : Type 0} (make : X → Setting) (value : Option X) (settings : List Setting) (setting : Setting) (x : X)
    → IsValueIn settings make value → key_of (make x) ≡ key_of setting → value ≡ Some x → IsNewKey settings setting → ⊥
old_key make value settings setting x says same some new =
    All-contains (λ one. HaveOtherKeys one setting) settings (make x) new ((says x).0 some) same

-- one setting more, of this key
pub more_here : {X : Type 0} (make : X → Setting) (value : Option X) (settings : List Setting) (y : X) → IsValueIn settings make value
    → ((one other : X) → make one ≡ make other → one ≡ other) → value ≡ None → IsValueIn (settings ++ make y ∷ []) make (Some y)
more_here make value settings y says apart none = λ x. (
  λ some. (let same : y ≡ x = cc in subst (λ z. Contains (settings ++ make y ∷ []) (make z)) same (Contains-push settings (make y))),
  λ there. elim (Contains-push_cases settings (make y) (make x) there) [
    | inl before ↦ (let some : value ≡ Some x = (says x).1 before in cc)
    | inr same ↦ ap Some (apart y x same)
  ],
)

-- one setting more, of another key
pub more_there : {X : Type 0} (make : X → Setting) (value : Option X) (settings : List Setting) (setting : Setting)
    → IsValueIn settings make value → ((x : X) → setting ≡ make x → ⊥) → IsValueIn (settings ++ setting ∷ []) make value
more_there make value settings setting says apart = λ x. (
  λ some. Contains-append_left settings (setting ∷ []) (make x) ((says x).0 some),
  λ there. elim (Contains-push_cases settings setting (make x) there) [ inl before ↦ (says x).1 before | inr same ↦ absurd (apart x same) ],
)

mtu_made : (bytes : ℕ) (one : Setting) → key_of one ≡ key_of (Mtu bytes) → (b : ℕ) × (one ≡ Mtu b)
mtu_made bytes (Mtu b) same = (b, refl)
mtu_made bytes (Lease secs) same = absurd (cc)
mtu_made bytes (IgnoreNaks ignored) same = absurd (cc)

lease_made : (secs : ℕ) (one : Setting) → key_of one ≡ key_of (Lease secs) → (s : ℕ) × (one ≡ Lease s)
lease_made secs (Mtu b) same = absurd (cc)
lease_made secs (Lease s) same = (s, refl)
lease_made secs (IgnoreNaks ignored) same = absurd (cc)

naks_made : (ignored : Bool) (one : Setting) → key_of one ≡ key_of (IgnoreNaks ignored) → (i : Bool) × (one ≡ IgnoreNaks i)
naks_made ignored (Mtu b) same = absurd (cc)
naks_made ignored (Lease s) same = absurd (cc)
naks_made ignored (IgnoreNaks i) same = (i, refl)

pub mtu_more : (settings : List Setting) (said : RunSettings) (bytes : ℕ) → is_some said.ip_mtu ≡ false → Say settings said
    → IsNewKey settings (Mtu bytes) × Say (settings ++ Mtu bytes ∷ []) record said { ip_mtu = Some bytes }
mtu_more settings said bytes none say = (
  new_key Mtu said.ip_mtu settings (Mtu bytes) say.mtu (mtu_made bytes) (none_of said.ip_mtu none),
  record {
    mtu = more_here Mtu said.ip_mtu settings bytes say.mtu (λ one other same. cc) (none_of said.ip_mtu none);
    lease = more_there Lease said.max_lease_secs settings (Mtu bytes) say.lease (λ x same. cc);
    naks = more_there IgnoreNaks said.ignore_naks settings (Mtu bytes) say.naks (λ x same. cc);
  },
)

pub lease_more : (settings : List Setting) (said : RunSettings) (secs : ℕ) → is_some said.max_lease_secs ≡ false → Say settings said
    → IsNewKey settings (Lease secs) × Say (settings ++ Lease secs ∷ []) record said { max_lease_secs = Some secs }
lease_more settings said secs none say = (
  new_key Lease said.max_lease_secs settings (Lease secs) say.lease (lease_made secs) (none_of said.max_lease_secs none),
  record {
    mtu = more_there Mtu said.ip_mtu settings (Lease secs) say.mtu (λ x same. cc);
    lease = more_here Lease said.max_lease_secs settings secs say.lease (λ one other same. cc) (none_of said.max_lease_secs none);
    naks = more_there IgnoreNaks said.ignore_naks settings (Lease secs) say.naks (λ x same. cc);
  },
)

pub naks_more : (settings : List Setting) (said : RunSettings) (ignored : Bool) → is_some said.ignore_naks ≡ false → Say settings said
    → IsNewKey settings (IgnoreNaks ignored) × Say (settings ++ IgnoreNaks ignored ∷ []) record said { ignore_naks = Some ignored }
naks_more settings said ignored none say = (
  new_key IgnoreNaks said.ignore_naks settings (IgnoreNaks ignored) say.naks (naks_made ignored) (none_of said.ignore_naks none),
  record {
    mtu = more_there Mtu said.ip_mtu settings (IgnoreNaks ignored) say.mtu (λ x same. cc);
    lease = more_there Lease said.max_lease_secs settings (IgnoreNaks ignored) say.lease (λ x same. cc);
    naks = more_here IgnoreNaks said.ignore_naks settings ignored say.naks (λ one other same. cc) (none_of said.ignore_naks none);
  },
)

-- a key that has a value
pub old_mtu : (settings : List Setting) (said : RunSettings) (bytes : ℕ) → is_some said.ip_mtu ≡ true → Say settings said
    → IsNewKey settings (Mtu bytes) → ⊥
old_mtu settings said bytes some say =
    let old = some_of said.ip_mtu some in old_key Mtu said.ip_mtu settings (Mtu bytes) old.0 say.mtu refl old.1

pub old_lease : (settings : List Setting) (said : RunSettings) (secs : ℕ) → is_some said.max_lease_secs ≡ true → Say settings said
    → IsNewKey settings (Lease secs) → ⊥
old_lease settings said secs some say =
    let old = some_of said.max_lease_secs some in old_key Lease said.max_lease_secs settings (Lease secs) old.0 say.lease refl old.1

pub old_naks : (settings : List Setting) (said : RunSettings) (ignored : Bool) → is_some said.ignore_naks ≡ true → Say settings said
    → IsNewKey settings (IgnoreNaks ignored) → ⊥
old_naks settings said ignored some say =
    let old = some_of said.ignore_naks some in old_key IgnoreNaks said.ignore_naks settings (IgnoreNaks ignored) old.0 say.naks refl old.1
