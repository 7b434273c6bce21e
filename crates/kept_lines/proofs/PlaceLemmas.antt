-- Lines in order, with their kinds: where one stands, puts and removals.
use Rattle.std.proofs.Common.{◌≡◌, ◌≤◌, ◌<◌, ℕ, suc, true, false, Some, List, [], ◌∷◌, ◌++◌, refl, sym, ap, ◌∙◌, arith, length, get_or, map, take, drop}
use Rattle.std.specs.List.{insert, remove, prefix_len}
use Rattle.std.specs.List.Sorted.{IsPartitionPoint, IsPartitionedBy}
use Rattle.std.proofs.lemmas.List.{drop-map, get_or-map, length-map, map-append, take-map}
use Rattle.std.proofs.lemmas.List.Elements.{All-append, All-cons, All-drop, All-pop, All-take}
use Rattle.std.proofs.lemmas.List.Sums.{prefix_len_is}
use Rattle.design_model.specs.declared.diagnostic.DiagLine.{DiagLine}
use Rattle.design_model.specs.Lines.{IsOfItsKind}
use Rattle.design_model.specs.Order.{put_in_order, sorted_by_bytes, texts}
use Rattle.report_lines.specs.Kinds.{HaveTheirKinds}
use Rattle.line_laws.specs.Lines.{SameLines, times}
use Rattle.kept_lines.specs.Kept.{AreInOrder, is_below}
use Rattle.kept_lines.proofs.OrderLemmas.{parted, put_is_insert, put_stays, remove_stays, removal_takes, sorted_is_in_order, stands}

map-insert : {X Y : Type 0} (f : X → Y) (xs : List X) (i : ℕ) (x : X) → map f (insert xs i x) ≡ insert (map f xs) i (f x)
map-insert f xs i x = simp (map-append, take-map, drop-map) refl

map-remove : {X Y : Type 0} (f : X → Y) (xs : List X) (i : ℕ) → map f (remove xs i) ≡ remove (map f xs) i
map-remove f xs i = simp (map-append, take-map, drop-map) refl

module _ {A : Type 0} where
  text_at : (lines : List (DiagLine A)) (i : ℕ) (d : DiagLine A) → i < length lines → get_or (texts lines) i d.text ≡ (get_or lines i d).text
  text_at lines i d below = get_or-map (λ l. l.text) lines i d d.text below

  pub length-texts : (lines : List (DiagLine A)) → length (texts lines) ≡ length lines
  length-texts lines = length-map lines (λ l. l.text)

  pub sorted_lines : (lines sorted : List (DiagLine A)) (old : List (List ℕ)) → lines ≡ sorted → texts sorted ≡ sorted_by_bytes old → HaveTheirKinds sorted → AreInOrder lines
  sorted_lines lines sorted old e s k = rw e (record { order = rw s (sorted_is_in_order old); kinds = k })

  -- lines in order are parted by which are below one
  pub parted_lines : (line : List ℕ) (lines : List (DiagLine A)) → AreInOrder lines → IsPartitionedBy (λ l. is_below line l.text) lines
  parted_lines line lines a i j d low high h =
      let r = parted line (texts lines) a.order i j d.text low (omega (arith, length-texts lines)) in
      rw (text_at lines j d high, text_at lines i d (omega arith)) at r h

  pub place_is : (line : List ℕ) (lines : List (DiagLine A)) (n : ℕ)
      → IsPartitionPoint (λ l. is_below line l.text ≡ true) (λ l. is_below line l.text ≡ false) lines n → n ≤ length lines
      → n ≡ prefix_len (is_below line) (texts lines)
  place_is line [] n p within = omega arith
  place_is line (l ∷ ls) n p within =
      let all = length-texts (l ∷ ls) in
      sym (prefix_len_is (is_below line) (texts (l ∷ ls)) n l.text (omega (arith, all))
      (λ k below. rw (text_at (l ∷ ls) k l (omega arith)) (p.0 k l (omega arith) below))
      (λ below. rw (text_at (l ∷ ls) n l (omega (arith, all))) (p.1 n l (omega arith) (omega (arith, all)))))

  -- a line that is put behind those below it
  pub put_texts : (old new : List (DiagLine A)) (line : DiagLine A) (place : ℕ) → new ≡ insert old place line → place ≡ prefix_len (is_below line.text) (texts old)
      → texts new ≡ put_in_order line.text (texts old)
  put_texts old new line place e h =
      ap texts e ∙ map-insert (λ l. l.text) old place line ∙ ap (λ (n : ℕ). insert (texts old) n line.text) h ∙ sym (put_is_insert line.text (texts old))

  insert_kinds : (lines : List (DiagLine A)) (place : ℕ) (line : DiagLine A) → HaveTheirKinds lines → IsOfItsKind line → HaveTheirKinds (insert lines place line)
  insert_kinds lines place line k is = record {
    each = All-append IsOfItsKind (take place lines) (line ∷ drop place lines) (All-take IsOfItsKind place lines k.each)
        (All-cons IsOfItsKind line (drop place lines) is (All-drop IsOfItsKind place lines k.each));
  }

  pub put_in : (old new : List (DiagLine A)) (line : DiagLine A) (place : ℕ) → new ≡ insert old place line → place ≡ prefix_len (is_below line.text) (texts old)
      → AreInOrder old → IsOfItsKind line → AreInOrder new
  put_in old new line place e h a is = record {
    order = rw (put_texts old new line place e h) (put_stays line.text (texts old) a.order);
    kinds = rw e (insert_kinds old place line a.kinds is);
  }

  -- a line that is taken out where it stands
  pub removed_texts : (old new : List (DiagLine A)) (line : List ℕ) (place : ℕ) → new ≡ remove old place → place ≡ prefix_len (is_below line) (texts old)
      → AreInOrder old → 0 < times line (texts old) → SameLines (texts old) (line ∷ texts new)
  removed_texts old new line place e h a some =
      rw (e, h, map-remove (λ l. l.text) old (prefix_len (is_below line) (texts old))) (removal_takes line (texts old) _ (stands line (texts old) a.order some))

  pub place_within : (lines : List (DiagLine A)) (line : List ℕ) (place : ℕ) → place ≡ prefix_len (is_below line) (texts lines) → AreInOrder lines → 0 < times line (texts lines)
      → place < length lines
  place_within lines line place h a some = omega (arith, h, (stands line (texts lines) a.order some).0, length-texts lines)

  pub removed_in : (old new : List (DiagLine A)) (place : ℕ) → new ≡ remove old place → AreInOrder old → AreInOrder new
  removed_in old new place e a = record {
    order = rw (e, map-remove (λ l. l.text) old place) (remove_stays (texts old) place a.order);
    kinds = rw e (record { each = All-append IsOfItsKind (take place old) (drop (suc place) old) (All-take IsOfItsKind place old a.kinds.each) (All-drop IsOfItsKind (suc place) old a.kinds.each) });
  }

  -- the last of some lines, and those before it
  pub kinds_left : (lines rest : List (DiagLine A)) (line : DiagLine A) → lines ≡ rest ++ line ∷ [] → HaveTheirKinds lines → HaveTheirKinds rest × IsOfItsKind line
  kinds_left lines rest line e k = let p = All-pop IsOfItsKind lines rest (Some line) e k.each in (record { each = p.0 }, p.1)
