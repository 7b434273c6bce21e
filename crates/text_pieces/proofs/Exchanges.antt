-- Exchanges of chunks.
use Rattle.std.proofs.Common.{◌≡◌, ℕ, List, [], ◌∷◌, length, get_or, set, refl, sym, ap, ◌∙◌, arith}
use Rattle.std.proofs.Math.ListN.{length-set}
use Rattle.std.proofs.lemmas.List.{get_or-set_other, get_or-set_same, set-get_or, set-set, set_comm}
use Rattle.text_pieces.specs.Chunks.{Numbers, Replacement, exchanged, no_numbers, IsElsewhere, ArePlaces}

abbrev Chunks : Type 0
Chunks = List Numbers

-- a place that no chunk takes keeps what it has
get-exchanged : (cs : Chunks) (rs : List Replacement) (p : ℕ) → IsElsewhere p rs → get_or (exchanged cs rs).0 p no_numbers ≡ get_or cs p no_numbers
get-exchanged cs [] p h = refl
get-exchanged cs (r ∷ rs) p h = get-exchanged (set cs r.0 r.1) rs p h.1 ∙ get_or-set_other cs r.0 p r.1 no_numbers h.0

pub length-exchanged : (cs : Chunks) (rs : List Replacement) → length (exchanged cs rs).0 ≡ length cs
length-exchanged cs [] = refl
length-exchanged cs (r ∷ rs) = length-exchanged (set cs r.0 r.1) rs ∙ length-set cs r.0 r.1

abbrev fronted : ℕ × Numbers → Chunks × List Replacement → Chunks × List Replacement
fronted r e = (e.0, r ∷ e.1)

-- what is set at such a place may as well be set after
set-exchanged : (cs : Chunks) (rs : List Replacement) (p : ℕ) (x : Numbers) → IsElsewhere p rs → exchanged (set cs p x) rs ≡ (set (exchanged cs rs).0 p x, (exchanged cs rs).1)
set-exchanged cs [] p x h = refl
set-exchanged cs (r ∷ rs) p x h =
    let c : set (set cs p x) r.0 r.1 ≡ set (set cs r.0 r.1) p x = set_comm cs p r.0 x r.1 h.0 in
    let g : get_or (set cs p x) r.0 no_numbers ≡ get_or cs r.0 no_numbers = get_or-set_other cs p r.0 x no_numbers (λ e. h.0 (sym e)) in
    rw (g, c) (ap (fronted (r.0, get_or cs r.0 no_numbers)) (set-exchanged (set cs r.0 r.1) rs p x h.1))

-- a second exchange undoes the first
pub exchanges_undo : (cs : Chunks) (rs : List Replacement) → ArePlaces (length cs) rs → exchanged (exchanged cs rs).0 (exchanged cs rs).1 ≡ (cs, rs)
exchanges_undo cs [] h = refl
exchanges_undo cs (r ∷ rs) h =
    let e = set-exchanged cs rs r.0 r.1 h.1 in
    let long : length (exchanged cs rs).0 ≡ length cs = length-exchanged cs rs in
    let back : get_or (set (exchanged cs rs).0 r.0 r.1) r.0 no_numbers ≡ r.1 = get_or-set_same (exchanged cs rs).0 r.0 r.1 no_numbers (omega (arith, long, h.0)) in
    let stays : set (exchanged cs rs).0 r.0 (get_or cs r.0 no_numbers) ≡ (exchanged cs rs).0 =
    ap (λ (y : Numbers). set (exchanged cs rs).0 r.0 y) (sym (get-exchanged cs rs r.0 h.1)) ∙ set-get_or (exchanged cs rs).0 r.0 no_numbers in
    rw e (rw (back, set-set (exchanged cs rs).0 r.0 r.1 (get_or cs r.0 no_numbers), stays) (ap (fronted r) (exchanges_undo cs rs h.2)))
