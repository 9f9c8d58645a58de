-- Texts with a byte between each two.
use Rattle.std.proofs.Common.{◌≡◌, ℕ, zero, suc, ◌+◌, ◌*◌, ◌<◌, ◌≤◌, List, [], ◌∷◌, ◌++◌, length, get_or, take, map, append_assoc, sym, ap, ◌∙◌, refl, arith, length-take}
use Rattle.std.specs.List.{join_with_byte}
use Rattle.std.proofs.lemmas.List.{take_more, map-append, length-map}
use Rattle.net_wire.specs.Pretty.{hex_pair}
use Rattle.host_top.specs.AddressText.{groups_of}

-- what stands in front of the text at a place
abbrev pub between : ℕ → ℕ → List ℕ
between c zero = []
between c (suc place) = c ∷ []

join_push : (c : ℕ) (texts : List (List ℕ)) (text : List ℕ)
    → (join_with_byte c texts ++ between c (length texts)) ++ text ≡ join_with_byte c (texts ++ text ∷ [])
join_push c [] text = refl
join_push c (one ∷ []) text = append_assoc one (c ∷ []) text
join_push c (one ∷ two ∷ texts) text =
    append_assoc (one ++ (c ∷ join_with_byte c (two ∷ texts))) (c ∷ []) text
    ∙ append_assoc one (c ∷ join_with_byte c (two ∷ texts)) (c ∷ text)
    ∙ ap (λ l. one ++ (c ∷ l)) (sym (append_assoc (join_with_byte c (two ∷ texts)) (c ∷ []) text) ∙ join_push c (two ∷ texts) text)

-- one text more, at the place behind those that are there
pub join_more : (c place : ℕ) (texts : List (List ℕ)) (text : List ℕ) → length texts ≡ place
    → (join_with_byte c texts ++ between c place) ++ text ≡ join_with_byte c (texts ++ text ∷ [])
join_more c place texts text same = ap (λ n. (join_with_byte c texts ++ between c n) ++ text) (sym same) ∙ join_push c texts text

pub join_map_more : {X : Type 0} (c place : ℕ) (f : X → List ℕ) (xs : List X) (d : X) → place < length xs
    → (join_with_byte c (map f (take place xs)) ++ between c place) ++ f (get_or xs place d)
    ≡ join_with_byte c (map f (take (place + 1) xs))
join_map_more c place f xs d within =
    join_more c place (map f (take place xs)) (f (get_or xs place d)) (omega (arith, length-map (take place xs) f, length-take place xs))
    ∙ ap (join_with_byte c) (sym (map-append f (take place xs) (get_or xs place d ∷ [])) ∙ sym (ap (map f) (take_more xs place d within)))

-- one group more
groups_more : (bytes : List ℕ) (place d : ℕ) → 2 * place + 1 < length bytes
    → groups_of (take (2 * place) bytes) ++ (hex_pair (get_or bytes (2 * place) d) ++ hex_pair (get_or bytes (2 * place + 1) d)) ∷ []
    ≡ groups_of (take (2 * (place + 1)) bytes)
groups_more [] place d within = absurd (omega (arith, within))
groups_more (high ∷ []) place d within = absurd (omega (arith, within))
groups_more (high ∷ low ∷ bytes) zero d within = refl
groups_more (high ∷ low ∷ bytes) (suc place) d within =
    let low_at : 2 * suc place + 1 ≡ suc (suc (2 * place + 1)) = omega arith in
    let high_at : 2 * suc place ≡ suc (suc (2 * place)) = omega arith in
    let next : 2 * (suc place + 1) ≡ suc (suc (2 * (place + 1))) = omega arith in
    rw (next, low_at, high_at)
    (ap (λ l. (hex_pair high ++ hex_pair low) ∷ l) (groups_more bytes place d (omega (arith, within))))

groups_length : (bytes : List ℕ) (place : ℕ) → 2 * place ≤ length bytes → length (groups_of (take (2 * place) bytes)) ≡ place
groups_length bytes zero within = refl
groups_length [] (suc place) within = absurd (omega (arith, within))
groups_length (high ∷ []) (suc place) within = absurd (omega (arith, within))
groups_length (high ∷ low ∷ bytes) (suc place) within =
    let both : 2 * suc place ≡ suc (suc (2 * place)) = omega arith in
    rw both (omega (arith, groups_length bytes place (omega (arith, within))))

pub join_groups_more : (c place : ℕ) (bytes : List ℕ) (d : ℕ) → 2 * place + 1 < length bytes
    → (join_with_byte c (groups_of (take (2 * place) bytes)) ++ between c place)
    ++ (hex_pair (get_or bytes (2 * place) d) ++ hex_pair (get_or bytes (2 * place + 1) d))
    ≡ join_with_byte c (groups_of (take (2 * (place + 1)) bytes))
join_groups_more c place bytes d within =
    join_more c place (groups_of (take (2 * place) bytes)) (hex_pair (get_or bytes (2 * place) d) ++ hex_pair (get_or bytes (2 * place + 1) d))
    (groups_length bytes place (omega (arith, within)))
    ∙ ap (join_with_byte c) (groups_more bytes place d within)
