-- The VLAN tags among some link extensions and one more.
use Rattle.std.proofs.Common.{◌≡◌, ℕ, ◌+◌, ◌%◌, ◌<◌, ◌≤◌, false, None, List, [], ◌∷◌, ◌++◌, length, take, drop, get_or, refl, sym, ap, ◌∙◌, length-append, arith}
use Rattle.std.specs.Prelude.{map, nat_lt}
use Rattle.std.proofs.lemmas.Bool.Decides.{nat_tests}
use Rattle.std.proofs.lemmas.List.{append-nil, map-append, length-map, length-take, take_more, drop_more, drop_all}
use Rattle.wire_base.specs.Bytes.{be16_at}
use Rattle.ether_link.specs.Form.{refusal, no_map}
use Rattle.ether_link.specs.Vlan.{vlan_form}
use Rattle.ether_link.specs.declared.link.LinkExtHeader.{LinkExtHeader}
use Rattle.ether_link.specs.declared.link.LinkExtHeader.TheVariants.{Vlan, Macsec}
use Rattle.ether_link.specs.declared.link.vlan.SingleVlanHeader.{SingleVlanHeader}
use Rattle.ether_lax.specs.LinkExts.{LinkExtPart, TagPart, SecuredPart, ModifiedPart, ext_in, macsec_in, payload_in}
use Rattle.ether_lax.specs.Tags.{tags_of, ids_of, tag_headers, header_ids}
use Rattle.ether_lax.specs.declared.link_ext.LaxLinkExtSlice.{LaxLinkExtSlice}
use Rattle.ether_lax.specs.declared.link_ext.LaxLinkExtSlice.TheVariants as extension
use Rattle.ether_lax.specs.declared.macsec.LaxMacsecSlice.{LaxMacsecSlice}
use Rattle.ether_lax.specs.declared.macsec.LaxMacsecPayloadSlice.{LaxMacsecPayloadSlice}
use Rattle.ether_lax.specs.declared.macsec.LaxMacsecPayloadSlice.TheVariants.{Unmodified, Modified}

tags_append : (xs ys : List LinkExtPart) → tags_of (xs ++ ys) ≡ tags_of xs ++ tags_of ys
tags_append [] ys = refl
tags_append (TagPart bytes ∷ xs) ys = ap (λ tags. bytes ∷ tags) (tags_append xs ys)
tags_append (SecuredPart header payload ∷ xs) ys = tags_append xs ys
tags_append (ModifiedPart header incomplete bytes ∷ xs) ys = tags_append xs ys

pub tags_more : (exts : List LaxLinkExtSlice) (i : ℕ) (ext : LaxLinkExtSlice) → i < length exts → ext ≡ get_or exts i ext
    → tags_of (map ext_in (take (i + 1) exts)) ≡ tags_of (map ext_in (take i exts)) ++ tags_of (ext_in ext ∷ [])
tags_more exts i ext there is =
    ap (λ list. tags_of (map ext_in list)) (take_more exts i ext there)
    ∙ ap (λ item. tags_of (map ext_in (take i exts ++ item ∷ []))) (sym is)
    ∙ (rw (map-append ext_in (take i exts) (ext ∷ [])) (tags_append (map ext_in (take i exts)) (ext_in ext ∷ [])))

pub ids_more : (xs ys : List (List ℕ)) → ids_of (xs ++ ys) ≡ ids_of xs ++ ids_of ys
ids_more xs ys = map-append _ xs ys

pub ids_next : (exts : List LaxLinkExtSlice) (i : ℕ) (ext : LaxLinkExtSlice) → i < length exts → ext ≡ get_or exts i ext
    → ids_of (tags_of (map ext_in (take (i + 1) exts))) ≡ ids_of (tags_of (map ext_in (take i exts))) ++ ids_of (tags_of (ext_in ext ∷ []))
ids_next exts i ext there is =
    ap ids_of (tags_more exts i ext there is) ∙ ids_more (tags_of (map ext_in (take i exts))) (tags_of (ext_in ext ∷ []))

no_tag_in : (header : List ℕ) (payload : LaxMacsecPayloadSlice) → tags_of (payload_in header payload ∷ []) ≡ []
no_tag_in header (Unmodified payload) = refl
no_tag_in header (Modified incomplete bytes) = refl

pub no_tag : (macsec : LaxMacsecSlice) → tags_of (macsec_in macsec ∷ []) ≡ []
no_tag macsec = no_tag_in macsec.header macsec.payload

pub ids_same : (exts : List LaxLinkExtSlice) (i : ℕ) (ext : LaxLinkExtSlice) (macsec : LaxMacsecSlice) → i < length exts → ext ≡ get_or exts i ext
    → ext ≡ extension.Macsec macsec → ids_of (tags_of (map ext_in (take (i + 1) exts))) ≡ ids_of (tags_of (map ext_in (take i exts)))
ids_same exts i ext macsec there is secured =
    let none : ids_of (tags_of (ext_in ext ∷ [])) ≡ [] = rw secured (ap ids_of (no_tag macsec)) in
    ids_next exts i ext there is ∙ (rw none (append-nil (ids_of (tags_of (map ext_in (take i exts))))))

pub ids_with : (exts : List LaxLinkExtSlice) (i : ℕ) (ext : LaxLinkExtSlice) (tag : List ℕ) (id : ℕ) (ids : List ℕ) → i < length exts → ext ≡ get_or exts i ext
    → ext ≡ extension.Vlan tag → id ≡ be16_at tag 0 % 4096 → ids ≡ ids_of (tags_of (map ext_in (take i exts)))
    → ids ++ id ∷ [] ≡ ids_of (tags_of (map ext_in (take (i + 1) exts)))
ids_with exts i ext tag id ids there is tagged id_is ids_are =
    let last : ids_of (tags_of (ext_in ext ∷ [])) ≡ id ∷ [] = rw (tagged, id_is) refl in
    sym (ids_next exts i ext there is ∙ (rw (last, ids_are) refl))

-- the tags themselves
pub tags_with : (exts : List LaxLinkExtSlice) (i : ℕ) (ext : LaxLinkExtSlice) (tag copy : List ℕ) (tags : List (List ℕ)) → i < length exts → ext ≡ get_or exts i ext
    → ext ≡ extension.Vlan tag → copy ≡ tag → tags ≡ tags_of (map ext_in (take i exts))
    → tags ++ copy ∷ [] ≡ tags_of (map ext_in (take (i + 1) exts))
tags_with exts i ext tag copy tags there is tagged same tags_are =
    let last : tags_of (ext_in ext ∷ []) ≡ copy ∷ [] = rw (tagged, same) refl in
    sym (tags_more exts i ext there is ∙ (rw (last, tags_are) refl))

pub tags_same : (exts : List LaxLinkExtSlice) (i : ℕ) (ext : LaxLinkExtSlice) (macsec : LaxMacsecSlice) → i < length exts → ext ≡ get_or exts i ext
    → ext ≡ extension.Macsec macsec → tags_of (map ext_in (take (i + 1) exts)) ≡ tags_of (map ext_in (take i exts))
tags_same exts i ext macsec there is secured =
    let none : tags_of (ext_in ext ∷ []) ≡ [] = rw secured (no_tag macsec) in
    tags_more exts i ext there is ∙ (rw none (append-nil (tags_of (map ext_in (take i exts)))))

tags_fit : (exts : List LinkExtPart) → length (tags_of exts) ≤ length exts
tags_fit [] = omega arith
tags_fit (TagPart bytes ∷ more) = let rest = tags_fit more in omega arith
tags_fit (SecuredPart header payload ∷ more) = let rest = tags_fit more in omega arith
tags_fit (ModifiedPart header incomplete bytes ∷ more) = let rest = tags_fit more in omega arith

pub tags_len : (exts : List LaxLinkExtSlice) (i : ℕ) → length (tags_of (map ext_in (take i exts))) ≤ i
tags_len exts i =
    let fit = tags_fit (map ext_in (take i exts)) in
    omega (arith, fit, length-map (take i exts) ext_in, length-take i exts)

pub ids_len : (tags : List (List ℕ)) → length (ids_of tags) ≡ length tags
ids_len tags = length-map tags _

-- the same of tags as structs
headers_append : (xs ys : List LinkExtHeader) → tag_headers (xs ++ ys) ≡ tag_headers xs ++ tag_headers ys
headers_append [] ys = refl
headers_append (Vlan tag ∷ xs) ys = ap (λ tags. tag ∷ tags) (headers_append xs ys)
headers_append (Macsec header ∷ xs) ys = headers_append xs ys

pub tag_headers_more : (exts : List LinkExtHeader) (i : ℕ) (ext : LinkExtHeader) → i < length exts → ext ≡ get_or exts i ext
    → tag_headers (take (i + 1) exts) ≡ tag_headers (take i exts) ++ tag_headers (ext ∷ [])
tag_headers_more exts i ext there is =
    ap tag_headers (take_more exts i ext there) ∙ ap (λ item. tag_headers (take i exts ++ item ∷ [])) (sym is) ∙ headers_append (take i exts) (ext ∷ [])

headers_fit : (exts : List LinkExtHeader) → length (tag_headers exts) ≤ length exts
headers_fit [] = omega arith
headers_fit (Vlan tag ∷ more) = let rest = headers_fit more in omega arith
headers_fit (Macsec header ∷ more) = let rest = headers_fit more in omega arith

pub tag_headers_len : (exts : List LinkExtHeader) (i : ℕ) → length (tag_headers (take i exts)) ≤ i
tag_headers_len exts i = let fit = headers_fit (take i exts) in omega (arith, fit, length-take i exts)

pub header_ids_len : (exts : List LinkExtHeader) (i : ℕ) → length (header_ids (tag_headers (take i exts))) ≤ i
header_ids_len exts i = rw (length-map (tag_headers (take i exts)) _) (tag_headers_len exts i)

pub header_ids_more : (xs ys : List SingleVlanHeader) → header_ids (xs ++ ys) ≡ header_ids xs ++ header_ids ys
header_ids_more xs ys = map-append _ xs ys

-- the link extensions from one on
pub drop_next : (exts : List LaxLinkExtSlice) (i : ℕ) (ext : LaxLinkExtSlice) → i < length exts → ext ≡ get_or exts i ext
    → map ext_in (drop i exts) ≡ ext_in ext ∷ map ext_in (drop (i + 1) exts)
drop_next exts i ext there is =
    ap (map ext_in) (drop_more exts i ext there) ∙ ap (λ first. ext_in first ∷ map ext_in (drop (i + 1) exts)) (sym is)

pub none_left : (exts : List LaxLinkExtSlice) (i : ℕ) → length exts ≤ i → map ext_in (drop i exts) ≡ []
none_left exts i past = ap (map ext_in) (drop_all i exts past)

-- a tag of four bytes is accepted
pub tag_accepted : (bytes : List ℕ) → 4 ≤ length bytes → refusal (vlan_form no_map) bytes ≡ None
tag_accepted bytes room =
    let first : nat_lt (length bytes) 4 ≡ false = grind (arith, nat_tests) in
    rw first refl
