use Rattle.std.proofs.Common.{◌≡◌, ◌<◌, ◌+◌, ◌∙◌, [], ◌∷◌, ◌++◌, List, refl, sym, ap, subst, drop, map, take, arith}
use Rattle.std.specs.Prelude.{option_map}
use Rattle.std.proofs.lemmas.List.{map-append, take_rest}
use Rattle.design_model.specs.declared.identifier.StmtId.{StmtId}
use Rattle.text_pieces.specs.Chunks.{Numbers, all_ids, ids_at, shown, shown_change}
use Rattle.text_pieces.specs.Lists.{AreLists, ids_left}
use Rattle.text_pieces.specs.Tables.{kept, weight, AreHome}
use Rattle.text_pieces.proofs.NewLists.{ended, ends, fits_here, goes_on, home_here}
use Rattle.text_pieces.proofs.NewWeights.{anew}
use Rattle.text_pieces.proofs.lists.new_lists.Goals as goal

pub weight_anew-len-requires-clause-kept : goal.weight_anew-len-requires-clause-kept
weight_anew-len-requires-clause-kept g c =
    let slots = map (option_map kept) c.args.table.now.pieces.slots in
    let cs = map shown c.args.table.now.chunks.items in
    let front = all_ids (take c.args.chunk cs) ++ c.args.head.items in
    let rest = ids_left cs c.args.chunk c.args.place c.args.out in
    let s = c.loop-k in
    let rs = map shown_change s.changes.items in
    let below = rw c.chunk_count-k-end.ensures at c.loop-k-test.true in
    let gone = c.min-gone.result in
    let gone_is = rw c.ids_in-old.ensures at c.min-gone.ensures in
    let items : c.extend_from_slice.new.self.items ≡ s.ids.items ++ drop (s.place + gone) (ids_at cs s.k) =
    c.in-Ok.ensures.items ∙ ap (λ (l : List StmtId). s.ids.items ++ l) (take_rest c.ids_in-old.result.now (s.place + gone) ∙ ap (drop (s.place + gone)) c.ids_in-old.ensures) in
    subst (AreHome slots s.k) (sym (c.deref.ensures.value ∙ items)) (home_here slots cs front rest rs s.k s.place s.left s.ids.items s.invariant.0 below gone)

pub weight_anew-len-requires-clause-fits : goal.weight_anew-len-requires-clause-fits
weight_anew-len-requires-clause-fits g c =
    let slots = map (option_map kept) c.args.table.now.pieces.slots in
    let cs = map shown c.args.table.now.chunks.items in
    let front = all_ids (take c.args.chunk cs) ++ c.args.head.items in
    let rest = ids_left cs c.args.chunk c.args.place c.args.out in
    let s = c.loop-k in
    let rs = map shown_change s.changes.items in
    let below = rw c.chunk_count-k-end.ensures at c.loop-k-test.true in
    let gone = c.min-gone.result in
    let gone_is = rw c.ids_in-old.ensures at c.min-gone.ensures in
    let items : c.extend_from_slice.new.self.items ≡ s.ids.items ++ drop (s.place + gone) (ids_at cs s.k) =
    c.in-Ok.ensures.items ∙ ap (λ (l : List StmtId). s.ids.items ++ l) (take_rest c.ids_in-old.result.now (s.place + gone) ∙ ap (drop (s.place + gone)) c.ids_in-old.ensures) in
    let few = fits_here slots cs front rest rs s.k s.place s.left s.ids.items s.invariant.0 below gone gone_is in
    let same = ap (weight slots) (c.deref.ensures.value ∙ items) in
    omega (arith, few, same, c.requires.fits)

pub weight_anew-len-requires-clause-inside : goal.weight_anew-len-requires-clause-inside
weight_anew-len-requires-clause-inside g c =
    let slots = map (option_map kept) c.args.table.now.pieces.slots in
    let cs = map shown c.args.table.now.chunks.items in
    let front = all_ids (take c.args.chunk cs) ++ c.args.head.items in
    let rest = ids_left cs c.args.chunk c.args.place c.args.out in
    let s = c.loop-k in
    let rs = map shown_change s.changes.items in
    let below = rw c.chunk_count-k-end.ensures at c.loop-k-test.true in
    let gone = c.min-gone.result in
    let gone_is = rw c.ids_in-old.ensures at c.min-gone.ensures in
    let items : c.extend_from_slice.new.self.items ≡ s.ids.items ++ drop (s.place + gone) (ids_at cs s.k) =
    c.in-Ok.ensures.items ∙ ap (λ (l : List StmtId). s.ids.items ++ l) (take_rest c.ids_in-old.result.now (s.place + gone) ∙ ap (drop (s.place + gone)) c.ids_in-old.ensures) in
    omega (arith, gone_is, s.invariant.0.inside)

pub weight_anew-len-requires-clause-is : goal.weight_anew-len-requires-clause-is
weight_anew-len-requires-clause-is g c =
    let slots = map (option_map kept) c.args.table.now.pieces.slots in
    let cs = map shown c.args.table.now.chunks.items in
    let front = all_ids (take c.args.chunk cs) ++ c.args.head.items in
    let rest = ids_left cs c.args.chunk c.args.place c.args.out in
    let s = c.loop-k in
    let rs = map shown_change s.changes.items in
    let below = rw c.chunk_count-k-end.ensures at c.loop-k-test.true in
    let gone = c.min-gone.result in
    let gone_is = rw c.ids_in-old.ensures at c.min-gone.ensures in
    let items : c.extend_from_slice.new.self.items ≡ s.ids.items ++ drop (s.place + gone) (ids_at cs s.k) =
    c.in-Ok.ensures.items ∙ ap (λ (l : List StmtId). s.ids.items ++ l) (take_rest c.ids_in-old.result.now (s.place + gone) ∙ ap (drop (s.place + gone)) c.ids_in-old.ensures) in
    anew s.ids.items (ids_at cs s.k) s.place gone _ s.invariant.3 (c.deref.ensures.value ∙ items)

pub returns-then-gone-left : goal.returns-then-gone-left
returns-then-gone-left g c =
    let slots = map (option_map kept) c.args.table.now.pieces.slots in
    let cs = map shown c.args.table.now.chunks.items in
    let front = all_ids (take c.args.chunk cs) ++ c.args.head.items in
    let rest = ids_left cs c.args.chunk c.args.place c.args.out in
    let s = c.loop-k in
    let rs = map shown_change s.changes.items in
    let below = rw c.chunk_count-k-end.ensures at c.loop-k-test.true in
    let gone = c.min-gone.result in
    let gone_is = rw c.ids_in-old.ensures at c.min-gone.ensures in
    let items : c.extend_from_slice.new.self.items ≡ s.ids.items ++ drop (s.place + gone) (ids_at cs s.k) =
    c.in-Ok.ensures.items ∙ ap (λ (l : List StmtId). s.ids.items ++ l) (take_rest c.ids_in-old.result.now (s.place + gone) ∙ ap (drop (s.place + gone)) c.ids_in-old.ensures) in
    let n : Numbers = record { ids = c.extend_from_slice.new.self.items; len = c.weight_anew-len.result } in
    let heavy : n.len ≡ weight slots n.ids = c.weight_anew-len.ensures ∙ ap (weight slots) c.deref.ensures.value in
    let put : map shown_change c.push.new.self.items ≡ rs ++ (s.k, n) ∷ [] = ap (map shown_change) c.in-Ok-push.ensures.items ∙ map-append shown_change s.changes.items _ in
    subst (AreLists slots cs (front ++ rest)) (sym put) (ended slots cs front rest rs s.k s.place s.left s.ids.items s.invariant.0 below gone n items heavy gone_is c.if-gone-left.true)

pub loop-k-preserved : goal.loop-k-preserved
loop-k-preserved g c =
    let slots = map (option_map kept) c.args.table.now.pieces.slots in
    let cs = map shown c.args.table.now.chunks.items in
    let front = all_ids (take c.args.chunk cs) ++ c.args.head.items in
    let rest = ids_left cs c.args.chunk c.args.place c.args.out in
    let s = c.loop-k in
    let rs = map shown_change s.changes.items in
    let below = rw c.chunk_count-k-end.ensures at c.loop-k-test.true in
    let gone = c.min-gone.result in
    let gone_is = rw c.ids_in-old.ensures at c.min-gone.ensures in
    let items : c.extend_from_slice.new.self.items ≡ s.ids.items ++ drop (s.place + gone) (ids_at cs s.k) =
    c.in-Ok.ensures.items ∙ ap (λ (l : List StmtId). s.ids.items ++ l) (take_rest c.ids_in-old.result.now (s.place + gone) ∙ ap (drop (s.place + gone)) c.ids_in-old.ensures) in
    let n : Numbers = record { ids = c.extend_from_slice.new.self.items; len = c.weight_anew-len.result } in
    let heavy : n.len ≡ weight slots n.ids = c.weight_anew-len.ensures ∙ ap (weight slots) c.deref.ensures.value in
    let put : map shown_change c.push.new.self.items ≡ rs ++ (s.k, n) ∷ [] = ap (map shown_change) c.in-Ok-push.ensures.items ∙ map-append shown_change s.changes.items _ in
    let next = goes_on slots cs front rest rs s.k s.place s.left s.ids.items s.invariant.0 below gone n items heavy gone_is c.if-gone-left.false in
    (rw (put, c.new-ids.ensures.items) next, λ h. c.new-ids.ensures.items, λ h. refl, refl)

pub returns : goal.returns
returns g c =
    let slots = map (option_map kept) c.args.table.now.pieces.slots in
    let cs = map shown c.args.table.now.chunks.items in
    let front = all_ids (take c.args.chunk cs) ++ c.args.head.items in
    let rest = ids_left cs c.args.chunk c.args.place c.args.out in
    let s = c.loop-k in
    let past = rw c.chunk_count-k-end.ensures at c.loop-k-test.false in
    let later : c.args.chunk < s.k = omega (arith, past, c.requires.within) in
    ends slots cs front rest (map shown_change s.changes.items) s.k s.left past (rw (s.invariant.1 later, s.invariant.2 later) at s.invariant.0)
