-- Words that are cut at their points.
use Rattle.std.proofs.Common.{◌≡◌, ℕ, ◌+◌, ◌<◌, ◌≤◌, Bool, true, false, cond, Option, None, Some, IfSome, IfNone, List, [], ◌∷◌, ◌++◌, append_assoc, append-nil, length, get_or, drop, take, refl, ap, ap₂, sym, subst, ◌∙◌, arith}
use Rattle.std.specs.Prelude.{◌==◌}
use Rattle.std.specs.List.{AllZip}
use Rattle.std.proofs.Math.ListN.{drop_of_length-le}
use Rattle.std.proofs.lemmas.List.{drop_more, take_all, take_more}
use Rattle.net_wire.specs.declared.address.Ipv4Address.{Ipv4Address}
use Rattle.host_top.specs.Ipv4Word.{IsOctetWord, IsIpv4Word, put_front, pieces}

put_twice : (a b : List ℕ) (all : List (List ℕ)) → put_front (a ++ b) all ≡ put_front a (put_front b all)
put_twice a b [] = refl
put_twice a b (piece ∷ more) = ap (λ p. p ∷ more) (append_assoc a b piece)

-- no bytes in front, the word being cut already
pub pieces_whole : (word : List ℕ) → pieces word ≡ put_front [] (pieces word)
pieces_whole [] = refl
pieces_whole (byte ∷ more) = by_test (byte == 46)
  where
    by_test : (b : Bool) → cond b ([] ∷ pieces more) (put_front (byte ∷ []) (pieces more))
        ≡ put_front [] (cond b ([] ∷ pieces more) (put_front (byte ∷ []) (pieces more)))
    by_test true = refl
    by_test false = put_twice [] (byte ∷ []) (pieces more)

-- the bytes up to a place that is no point
pub pieces_on : (word : List ℕ) (place : ℕ) → place < length word → (get_or word place 0 == 46) ≡ false
    → pieces word ≡ put_front (take place word) (pieces (drop place word))
    → pieces word ≡ put_front (take (place + 1) word) (pieces (drop (place + 1) word))
pieces_on word place below other cut =
    let byte = get_or word place 0 in
    let more = drop (place + 1) word in
    let opened : pieces (drop place word) ≡ put_front (byte ∷ []) (pieces more) =
    ap pieces (drop_more word place 0 below) ∙ ap (λ b. cond b ([] ∷ pieces more) (put_front (byte ∷ []) (pieces more))) other in
    cut ∙ ap (put_front (take place word)) opened ∙ sym (put_twice (take place word) (byte ∷ []) (pieces more))
    ∙ ap (λ front. put_front front (pieces more)) (sym (take_more word place 0 below))

-- and up to the first point
pub pieces_cut : (word : List ℕ) (place : ℕ) → place < length word → (get_or word place 0 == 46) ≡ true
    → pieces word ≡ put_front (take place word) (pieces (drop place word))
    → pieces word ≡ take place word ∷ pieces (drop (place + 1) word)
pieces_cut word place below point cut =
    let byte = get_or word place 0 in
    let more = drop (place + 1) word in
    let opened : pieces (drop place word) ≡ [] ∷ pieces more =
    ap pieces (drop_more word place 0 below) ∙ ap (λ b. cond b ([] ∷ pieces more) (put_front (byte ∷ []) (pieces more))) point in
    cut ∙ ap (put_front (take place word)) opened ∙ ap (λ front. front ∷ pieces more) (append-nil (take place word))

-- a word without a point
pub pieces_end : (word : List ℕ) (place : ℕ) → length word ≤ place
    → pieces word ≡ put_front (take place word) (pieces (drop place word)) → pieces word ≡ word ∷ []
pieces_end word place all cut =
    cut ∙ ap (λ rest. put_front (take place word) (pieces rest)) (drop_of_length-le word all)
    ∙ ap (λ front. front ∷ []) (append-nil (take place word) ∙ take_all place word all)

-- a word has a piece
pub pieces_some : (word : List ℕ) → 1 ≤ length (pieces word)
pieces_some word = subst (λ n. 1 ≤ n) (sym (ap length (pieces_whole word))) (front_some [] (pieces word))
  where
    front_some : (front : List ℕ) (all : List (List ℕ)) → 1 ≤ length (put_front front all)
    front_some front [] = omega arith
    front_some front (piece ∷ more) = omega arith

-- a word that is cut four times
pub cut_in_four : (word a behind_a b behind_b c d : List ℕ) → pieces word ≡ a ∷ pieces behind_a → pieces behind_a ≡ b ∷ pieces behind_b
    → pieces behind_b ≡ c ∷ pieces d → pieces word ≡ a ∷ b ∷ c ∷ pieces d
cut_in_four word a behind_a b behind_b c d first second third = first ∙ ap (λ l. a ∷ l) second ∙ ap (λ l. a ∷ b ∷ l) third

-- and one more time
pub five_pieces : (word a b c d e behind : List ℕ) → pieces word ≡ a ∷ b ∷ c ∷ pieces d → pieces d ≡ e ∷ pieces behind
    → (address : Ipv4Address) → IsIpv4Word word address → ⊥
five_pieces word a b c d e behind cut more address is =
    omega (arith, is.four, ap length (cut ∙ ap (λ l. a ∷ b ∷ c ∷ l) more), pieces_some behind)

-- four octets with points between them
pub address_found : (word a b c d : List ℕ) (found : Option Ipv4Address) → pieces word ≡ a ∷ b ∷ c ∷ pieces d → pieces d ≡ d ∷ []
    → IfSome found (λ address. AllZip IsOctetWord (a ∷ b ∷ c ∷ d ∷ []) address.0) → IfSome found (IsIpv4Word word)
address_found word a b c d None cut last octets = tt
address_found word a b c d (Some address) cut last octets =
    let are : pieces word ≡ a ∷ b ∷ c ∷ d ∷ [] = cut ∙ ap (λ l. a ∷ b ∷ c ∷ l) last in
    record { four = ap length are; octets = subst (λ l. AllZip IsOctetWord l address.0) (sym are) octets }

pub address_missed : (word a b c d : List ℕ) (found : Option Ipv4Address) → pieces word ≡ a ∷ b ∷ c ∷ pieces d → pieces d ≡ d ∷ []
    → IfNone found ((address : Ipv4Address) → AllZip IsOctetWord (a ∷ b ∷ c ∷ d ∷ []) address.0 → ⊥)
    → IfNone found ((address : Ipv4Address) → IsIpv4Word word address → ⊥)
address_missed word a b c d None cut last none = λ address is.
    none address (subst (λ l. AllZip IsOctetWord l address.0) (cut ∙ ap (λ l. a ∷ b ∷ c ∷ l) last) is.octets)
address_missed word a b c d (Some address) cut last none = tt

-- a word writes one octet, and one address
one_octet : (word : List ℕ) (one other : ℕ) → IsOctetWord word one → IsOctetWord word other → one ≡ other
one_octet word one other first second = first.writes.value ∙ sym second.writes.value

one_zip : (words : List (List ℕ)) (xs ys : List ℕ) → AllZip IsOctetWord words xs → AllZip IsOctetWord words ys → xs ≡ ys
one_zip [] [] [] first second = refl
one_zip [] [] (y ∷ ys) first second = absurd second
one_zip [] (x ∷ xs) ys first second = absurd first
one_zip (w ∷ words) [] ys first second = absurd first
one_zip (w ∷ words) (x ∷ xs) [] first second = absurd second
one_zip (w ∷ words) (x ∷ xs) (y ∷ ys) first second =
    ap₂ (λ z zs. z ∷ zs) (one_octet w x y first.0 second.0) (one_zip words xs ys first.1 second.1)

pub one_address : (word : List ℕ) (one other : Ipv4Address) → IsIpv4Word word one → IsIpv4Word word other → one.0 ≡ other.0
one_address word one other first second = one_zip (pieces word) one.0 other.0 first.octets second.octets
