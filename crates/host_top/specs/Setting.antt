-- The words behind MAX: settings, each of which is a key, an equals sign and a value.
use Rattle.std.specs.Prelude.{◌≡◌, ◌≢◌, ◌↔◌, ℕ, ◌≤◌, Bool, true, false, List, ◌++◌, Option, Some, codes}
use Rattle.std.specs.List.{All, AllPairs, AllZip, Contains}
use Rattle.host_top.specs.declared.setting.RunSettings.{RunSettings}
use Rattle.host_top.specs.declared.setting.Setting.{Setting}
use Rattle.host_top.specs.declared.setting.Setting.TheVariants.{Mtu, Lease, IgnoreNaks}
use Rattle.host_top.specs.Word.{IsNumberWord, IsU32Word}

abbrev pub key_of : Setting → List ℕ
key_of (Mtu bytes) = codes "mtu"
key_of (Lease secs) = codes "lease"
key_of (IgnoreNaks ignored) = codes "naks"

abbrev pub nak_word : Bool → List ℕ
nak_word true = codes "ignore"
nak_word false = codes "obey"

-- one to four decimal digits, from 576 (RFC 791, section 3.1) to 1500 (RFC 894)
pub record IsMtuWord (word : List ℕ) (bytes : ℕ) : Type 0 where
  pub writes : IsNumberWord 10 4 word bytes
  pub least : 576 ≤ bytes
  pub most : bytes ≤ 1500

-- the word behind the equals sign writes the value of the setting
abbrev pub WritesValue : List ℕ → Setting → Type 0
WritesValue word (Mtu bytes) = IsMtuWord word bytes
WritesValue word (Lease secs) = IsU32Word word secs
WritesValue word (IgnoreNaks ignored) = word ≡ nak_word ignored

-- the word is the key of the setting, an equals sign and its value
pub record SpellsSetting (word : List ℕ) (setting : Setting) : Type 0 where
  pub value_word : List ℕ
  pub is : word ≡ key_of setting ++ codes "=" ++ value_word
  pub writes : WritesValue value_word setting

abbrev pub HaveOtherKeys : Setting → Setting → Type 0
HaveOtherKeys one other = key_of one ≢ key_of other

-- none of the settings has the key of that one
abbrev pub IsNewKey : List Setting → Setting → Type 0
IsNewKey settings setting = All (λ one. HaveOtherKeys one setting) settings

-- the words spell the settings, one by one, and no two of them have one key
pub record AreSettings (words : List (List ℕ)) (settings : List Setting) : Type 0 where
  pub spelled : AllZip SpellsSetting words settings
  pub once : AllPairs HaveOtherKeys settings

-- the value is the one of a setting in the list, or nothing where none of them has one
abbrev pub IsValueIn : {X : Type 0} → List Setting → (X → Setting) → Option X → Type 0
IsValueIn {X} settings setting value = (x : X) → (value ≡ Some x) ↔ Contains settings (setting x)

-- what settings say of each key
pub record Say (settings : List Setting) (said : RunSettings) : Type 0 where
  pub mtu : IsValueIn settings Mtu said.ip_mtu
  pub lease : IsValueIn settings Lease said.max_lease_secs
  pub naks : IsValueIn settings IgnoreNaks said.ignore_naks

-- the words are settings that say so
pub record Sets (words : List (List ℕ)) (said : RunSettings) : Type 0 where
  pub settings : List Setting
  pub are : AreSettings words settings
  pub say : Say settings said
