-- Entries that are drawn one after the other.
use Rattle.std.proofs.Common.{◌≡◌, ℕ, suc, ◌+◌, ◌<◌, false, true, List, ◌∷◌, ◌++◌, Option, Some, None, drop, flat_map, get_or, length, map, refl, sym, ap, ◌∙◌, add-one, drop-cons}
use Rattle.std.specs.List.{cons_option, filter_map}
use Rattle.lef_grammar.specs.Definitions.{Layer}
use Rattle.lef_grammar.specs.Library.{Library}
use Rattle.wire_rules.specs.Paths.{Piece}
use Rattle.connection_rules.specs.NetParts.{Net, Wired, drawn, drawn_parts}
use Rattle.net_lists.specs.Building.{with_parts}
use Rattle.drawn_parts.specs.Drawing.{Drawing, IsReady, put_pieces}
use Rattle.drawn_parts.specs.EntryParts.{parts_drawn, parts_if}
use Rattle.drawn_parts.proofs.PartLemmas.{drawn_all, parts_append, pieces_append, with_parts_append}

pub left_from : {X : Type 0} (xs : List X) (i : ℕ) (x : X) → i < length xs → x ≡ get_or xs i x → drop i xs ≡ x ∷ drop (i + 1) xs
left_from xs i x below is = rw add-one (drop-cons xs i x below ∙ ap (λ y. y ∷ drop (suc i) xs) (sym is))

not_begun : {X : Type 0} → false ≡ true → X
not_begun e = let none : ⊥ = cc in absurd none

-- nothing is drawn yet
pub none_begun : {A : Type 0} (library : Library) (nets : List Net) → 0 < length nets → IsReady {A = A} (record { is_begun = false; layers = library }) nets
none_begun library nets some = record { some = some; begun = λ e. not_begun e }

module _ (layers : List Layer) where
  -- all pieces of an entry were put in, from a net on whose last part isn't begun
  pub put_apart : (w : Wired) (nets : List Net) (d : Drawing) → d ≡ put_pieces layers w.pieces (record { is_begun = false; nets = nets }) → d.nets ≡ with_parts (parts_drawn layers w) nets
  put_apart w nets d h = ap (λ (x : Drawing). x.nets) h ∙ drawn_all layers w.pieces nets

  -- some pieces were put in, and then others
  pub put_twice : (xs ys : List Piece) (d e f : Drawing) → e ≡ put_pieces layers xs d → f ≡ put_pieces layers ys e → f ≡ put_pieces layers (xs ++ ys) d
  put_twice xs ys d e f first second = second ∙ ap (put_pieces layers ys) first ∙ sym (pieces_append layers xs ys d)

  drawn_next : (o : Option Wired) (ws : List Wired) → drawn_parts layers (cons_option o ws) ≡ parts_if layers o ++ drawn_parts layers ws
  drawn_next None ws = refl
  drawn_next (Some w) ws = parts_append layers (drawn w.pieces) (flat_map (λ (v : Wired). drawn v.pieces) ws)

  -- what an entry draws was put in, and what the entries behind it draw is left
  pub entry_put : {X E : Type 0} (view : X → E) (wired : E → Option Wired) (xs : List X) (i : ℕ) (x : X) (nets more all : List Net) → i < length xs → x ≡ get_or xs i x
      → more ≡ with_parts (parts_if layers (wired (view x))) nets
      → with_parts (drawn_parts layers (filter_map wired (map view (drop i xs)))) nets ≡ all
      → with_parts (drawn_parts layers (filter_map wired (map view (drop (i + 1) xs)))) more ≡ all
  entry_put view wired xs i x nets more all below is put so_far =
      let later = filter_map wired (map view (drop (i + 1) xs)) in
      ap (with_parts (drawn_parts layers later)) put
      ∙ sym (with_parts_append (parts_if layers (wired (view x))) (drawn_parts layers later) nets)
      ∙ ap (λ ps. with_parts ps nets) (sym (drawn_next (wired (view x)) later))
      ∙ ap (λ ys. with_parts (drawn_parts layers (filter_map wired (map view ys))) nets) (sym (left_from xs i x below is))
      ∙ so_far
