-- The statements behind a header that belong to a definition.
use Rattle.std.proofs.Common.{◌≡◌, ℕ, ◌+◌, ◌<◌, ◌≤◌, false, List, [], ◌∷◌, ◌++◌, map, length, get_or, take, drop, refl, sym, ap, ◌∙◌, append_assoc, Option, Some, None, IsTrue, is_some}
use Rattle.std.specs.List.{AllByRecursion, cons_option, filter_map}
use Rattle.std.proofs.lemmas.List.{append-nil, map-append, take_all, take_more}
use Rattle.std.proofs.lemmas.List.Elements.{filter_map-append}
use Rattle.std.proofs.Math.ListN.{drop_of_length-le}
use Rattle.form_meanings.specs.Firsts.{found_then, front}
use Rattle.lef_grammar.specs.Definitions.{inner_record, pin_record}
use Rattle.lef_grammar.specs.LefRecords.{LefRecord, outside, in_pin, in_port}
use Rattle.cell_library.specs.Records.{AreIn}
use Rattle.cell_library.proofs.AddingLemmas.{split_at}

module _ {S R P : Type 0} (see : S → R) (part : R → Option P) where
  abbrev pub Inside : List S → Type 0
  Inside ss = AllByRecursion (λ r. IsTrue (is_some (part r))) (map see ss)

  abbrev pub parts : List S → List P
  parts ss = filter_map part (map see ss)

  abbrev pub before_end : List S → List P
  before_end ss = front part (map see ss)

  inside_more : (ss : List S) (s : S) → Inside ss → IsTrue (is_some (part (see s))) → Inside (ss ++ s ∷ [])
  inside_more [] s h k = (k, tt)
  inside_more (t ∷ ss) s h k = (h.0, inside_more ss s h.1 k)

  step : (o : Option P) (ps qs : List P) → IsTrue (is_some o) → (ps ++ cons_option o []) ++ qs ≡ ps ++ found_then o qs
  step None ps qs h = cc
  step (Some p) ps qs h = append_assoc ps (p ∷ []) qs

  ended : (o : Option P) (qs : List P) → is_some o ≡ false → found_then o qs ≡ []
  ended None qs h = refl
  ended (Some p) qs h = cc

  module _ (ss : List S) (i : ℕ) (s : S) (below : i < length ss) (here : s ≡ get_or ss i s) where
    taken : take (i + 1) ss ≡ take i ss ++ s ∷ []
    taken = take_more ss i s below ∙ ap (λ x. take i ss ++ x ∷ []) (sym here)

    pub inside_on : Inside (take i ss) → IsTrue (is_some (part (see s))) → Inside (take (i + 1) ss)
    inside_on h k = rw taken (inside_more (take i ss) s h k)

    pub parts_on : IsTrue (is_some (part (see s))) → parts (take (i + 1) ss) ++ before_end (drop (i + 1) ss) ≡ parts (take i ss) ++ before_end (drop i ss)
    unfolding front
    parts_on k = rw (taken, split_at ss i s below here, map-append see (take i ss) (s ∷ []), filter_map-append part (map see (take i ss)) (see s ∷ []))
        (step (part (see s)) (parts (take i ss)) (before_end (drop (i + 1) ss)) k)

    pub parts_stop : is_some (part (see s)) ≡ false → parts (take i ss) ++ before_end (drop i ss) ≡ parts (take i ss)
    unfolding front
    parts_stop k = rw (split_at ss i s below here, ended (part (see s)) (before_end (drop (i + 1) ss)) k) (append-nil (parts (take i ss)))

  module _ (ss : List S) (i : ℕ) (above : length ss ≤ i) where
    pub inside_end : Inside (take i ss) → Inside ss
    inside_end h = rw (take_all i ss above) at h

    pub parts_end : parts (take i ss) ++ before_end (drop i ss) ≡ parts ss
    unfolding front
    parts_end = rw (take_all i ss above, drop_of_length-le ss above) (append-nil (parts ss))

pub inner_exact : (rs : List LefRecord) → AreIn inner_record rs → filter_map inner_record rs ≡ rs
inner_exact [] h = refl
inner_exact (outside r ∷ rs) h = absurd (cc (h.0))
inner_exact (r ∷ rs) h = ap (λ x. r ∷ x) (inner_exact rs h.1)

pub pin_exact : (rs : List LefRecord) → AreIn pin_record rs → filter_map pin_record rs ≡ rs
pin_exact [] h = refl
pin_exact (in_pin r ∷ rs) h = ap (λ x. in_pin r ∷ x) (pin_exact rs h.1)
pin_exact (in_port r ∷ rs) h = ap (λ x. in_port r ∷ x) (pin_exact rs h.1)
pin_exact (r ∷ rs) h = absurd (cc (h.0))
