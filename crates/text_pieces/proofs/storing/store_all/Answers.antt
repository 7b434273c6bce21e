use Rattle.std.proofs.Common.{[], ◌∷◌, ◌∙◌, ℕ, refl, map, subst, List, sym}
use Rattle.std.specs.Prelude.{option_map}
use Rattle.std.proofs.lemmas.List.{map-append}
use Rattle.text_pieces.specs.Storing.{Stores, StoresAll, new_kept, news_of}
use Rattle.text_pieces.specs.Tables.{Kept, kept}
use Rattle.text_pieces.proofs.StoredPieces.{all_more, stays_on}
use Rattle.text_pieces.proofs.storing.store_all.Goals as goal

pub loop-piece-preserved : goal.loop-piece-preserved
loop-piece-preserved g c =
    let l = c.loop-piece in
    let old = map (option_map kept) c.args.pieces.now.slots in
    let mid = map (option_map kept) l.pieces.slots in
    let new = map (option_map kept) c.keep.new.pieces.slots in
    let s = c.in-Ok-keep.ensures.kept in
    let p = c.in-Some.piece in
    let bytes = c.in-Ok-whole.ensures ∙ c.in-Ok.ensures in
    let stored = subst (λ (b : List ℕ). Stores mid new (record { mode = p.mode; bytes = b; chunk = c.args.chunk }) c.in-Ok-keep._id) bytes s.1 in
    let more = all_more old mid new (news_of c.args.chunk l.yielded) c.args.chunk c.args.ids.now.items l.ids.items c.keep.new.ids.items _ c.in-Ok-keep._id l.invariant.0 l.invariant.1 stored refl s.0 in (
      subst (λ (ks : List Kept). StoresAll old new ks c.args.chunk c.args.ids.now.items c.keep.new.ids.items) (sym (map-append (new_kept c.args.chunk) l.yielded (p ∷ []))) more,
      stays_on old mid new l.invariant.1 c.keep.ensures.stays,
    )

pub returns-in_default-keep-clause-stays : goal.returns-in_default-keep-clause-stays
returns-in_default-keep-clause-stays g c =
    stays_on (map (option_map kept) c.args.pieces.now.slots) (map (option_map kept) c.loop-piece.pieces.slots) (map (option_map kept) c.keep.new.pieces.slots) c.loop-piece.invariant.1 c.keep.ensures.stays
