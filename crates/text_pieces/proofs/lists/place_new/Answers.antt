use Rattle.std.proofs.Common.{◌≡◌, ◌∙◌, ◌++◌, List, sym, ap, subst, drop, map, take, arith}
use Rattle.std.specs.Prelude.{option_map}
use Rattle.std.proofs.lemmas.List.{drop_at, length-take-le, take-append-le, take_all, take_rest}
use Rattle.design_model.specs.declared.identifier.StmtId.{StmtId}
use Rattle.text_pieces.specs.Chunks.{ids_at, shown, shown_change}
use Rattle.text_pieces.specs.Lists.{AreLists, ids_left}
use Rattle.text_pieces.specs.Preparing.{IsPut}
use Rattle.text_pieces.specs.Storing.{news_of}
use Rattle.text_pieces.specs.Tables.{kept, table_of, weight, AreHome}
use Rattle.text_pieces.proofs.NewWeights.{home_in}
use Rattle.text_pieces.proofs.PutPieces.{regrouped, table_stays, then_fits}
use Rattle.text_pieces.proofs.Slots.{home_take}
use Rattle.text_pieces.proofs.StoredPieces.{home_append, home_stays}
use Rattle.text_pieces.proofs.lists.place_new.Goals as goal

pub new_lists-requires-clause-table : goal.new_lists-requires-clause-table
new_lists-requires-clause-table g c =
    let old = map (option_map kept) c.args.table.now.pieces.slots in
    let new = map (option_map kept) c.store_all.new.pieces.slots in
    let cs = map shown c.args.table.now.chunks.items in
    let k = c.args.chunk in
    let i = c.args.index in
    let head : c.in-Ok-from_slice.head.items ≡ take i (ids_at cs k) = c.in-Ok-from_slice.ensures.items ∙ ap (take i) c.ids_in.ensures in
    let a = rw c.in-Ok.ensures at c.in-Ok-store_all.ensures.kept in
    let stays = c.in-Ok-store_all.ensures.stays in
    let after : c.store_all.new.ids.items ≡ take i (ids_at cs k) ++ a.ids = a.is ∙ ap (λ (l : List StmtId). l ++ a.ids) head in
    table_stays old new stays cs c.requires.table

pub new_lists-requires-clause-front : goal.new_lists-requires-clause-front
new_lists-requires-clause-front g c =
    let old = map (option_map kept) c.args.table.now.pieces.slots in
    let new = map (option_map kept) c.store_all.new.pieces.slots in
    let cs = map shown c.args.table.now.chunks.items in
    let k = c.args.chunk in
    let i = c.args.index in
    let head : c.in-Ok-from_slice.head.items ≡ take i (ids_at cs k) = c.in-Ok-from_slice.ensures.items ∙ ap (take i) c.ids_in.ensures in
    let a = rw c.in-Ok.ensures at c.in-Ok-store_all.ensures.kept in
    let stays = c.in-Ok-store_all.ensures.stays in
    let after : c.store_all.new.ids.items ≡ take i (ids_at cs k) ++ a.ids = a.is ∙ ap (λ (l : List StmtId). l ++ a.ids) head in
    ap (take i) after ∙ take-append-le i (take i (ids_at cs k)) a.ids (omega (arith, length-take-le i (ids_at cs k) c.requires.inside)) ∙ take_all i (take i (ids_at cs k)) (omega (arith, length-take-le i (ids_at cs k) c.requires.inside))

pub new_lists-requires-clause-home : goal.new_lists-requires-clause-home
new_lists-requires-clause-home g c =
    let old = map (option_map kept) c.args.table.now.pieces.slots in
    let new = map (option_map kept) c.store_all.new.pieces.slots in
    let cs = map shown c.args.table.now.chunks.items in
    let k = c.args.chunk in
    let i = c.args.index in
    let head : c.in-Ok-from_slice.head.items ≡ take i (ids_at cs k) = c.in-Ok-from_slice.ensures.items ∙ ap (take i) c.ids_in.ensures in
    let a = rw c.in-Ok.ensures at c.in-Ok-store_all.ensures.kept in
    let stays = c.in-Ok-store_all.ensures.stays in
    let after : c.store_all.new.ids.items ≡ take i (ids_at cs k) ++ a.ids = a.is ∙ ap (λ (l : List StmtId). l ++ a.ids) head in
    let here = home_in old cs k c.requires.table c.requires.within in
    subst (AreHome new k) (sym after) (home_append new k (take i (ids_at cs k)) a.ids (home_stays old new stays k (take i (ids_at cs k)) (home_take old k (ids_at cs k) i here)) a.home)

pub new_lists-requires-clause-fits : goal.new_lists-requires-clause-fits
new_lists-requires-clause-fits g c =
    let old = map (option_map kept) c.args.table.now.pieces.slots in
    let new = map (option_map kept) c.store_all.new.pieces.slots in
    let cs = map shown c.args.table.now.chunks.items in
    let k = c.args.chunk in
    let i = c.args.index in
    let head : c.in-Ok-from_slice.head.items ≡ take i (ids_at cs k) = c.in-Ok-from_slice.ensures.items ∙ ap (take i) c.ids_in.ensures in
    let a = rw c.in-Ok.ensures at c.in-Ok-store_all.ensures.kept in
    let stays = c.in-Ok-store_all.ensures.stays in
    let after : c.store_all.new.ids.items ≡ take i (ids_at cs k) ++ a.ids = a.is ∙ ap (λ (l : List StmtId). l ++ a.ids) head in
    let same = ap (weight new) (regrouped cs k i c.store_all.new.ids.items a.ids (ids_left cs k i c.args.out) after) in
    let fits = then_fits old new stays cs k i c.args.out a.ids (news_of k c.args.new.items) c.requires.table.chunks c.requires.within a.kept in
    omega (arith, same, fits, c.requires.fits)

pub returns-clause-put : goal.returns-clause-put
returns-clause-put g c =
    let old = map (option_map kept) c.args.table.now.pieces.slots in
    let new = map (option_map kept) c.store_all.new.pieces.slots in
    let cs = map shown c.args.table.now.chunks.items in
    let k = c.args.chunk in
    let i = c.args.index in
    let head : c.in-Ok-from_slice.head.items ≡ take i (ids_at cs k) = c.in-Ok-from_slice.ensures.items ∙ ap (take i) c.ids_in.ensures in
    let a = rw c.in-Ok.ensures at c.in-Ok-store_all.ensures.kept in
    let stays = c.in-Ok-store_all.ensures.stays in
    let after : c.store_all.new.ids.items ≡ take i (ids_at cs k) ++ a.ids = a.is ∙ ap (λ (l : List StmtId). l ++ a.ids) head in
    let put : c.in-Ok-from_slice-2.ids.items ≡ a.ids =
    c.in-Ok-from_slice-2.ensures.items ∙ take_rest c.deref.result.now i ∙ ap (drop i) (c.deref.ensures.value ∙ after)
    ∙ drop_at (take i (ids_at cs k)) a.ids i (length-take-le i (ids_at cs k) c.requires.inside) in
    let is : IsPut (table_of c.args.table.now) (record { chunks = cs; slots = new }) k i c.args.out (news_of k c.args.new.items) (map shown_change c.in-Ok-new_lists.changes.items) a.ids = record {
      free = a.free;
      once = a.once;
      own = a.kept;
      lists = subst (λ (ids : List StmtId). AreLists new cs ids (map shown_change c.in-Ok-new_lists.changes.items)) (regrouped cs k i c.store_all.new.ids.items a.ids (ids_left cs k i c.args.out) after) c.in-Ok-new_lists.ensures;
    } in
    subst (IsPut (table_of c.args.table.now) (record { chunks = cs; slots = new }) k i c.args.out (news_of k c.args.new.items) (map shown_change c.in-Ok-new_lists.changes.items)) (sym put) is
