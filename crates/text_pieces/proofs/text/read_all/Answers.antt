use Rattle.std.proofs.Common.{◌≡◌, ◌∙◌, [], ◌∷◌, ◌++◌, ℕ, List, ap, sym, subst, length, map, IsOk, arith}
use Rattle.std.specs.Prelude.{option_map}
use Rattle.std.proofs.lemmas.List.{map-append, take_rest}
use Rattle.text_pieces.specs.Chunks.{shown}
use Rattle.text_pieces.specs.Content.{read_keyless}
use Rattle.text_pieces.specs.Tables.{kept}
use Rattle.text_pieces.proofs.Opened.{opened_reads, opened_text, opened_whole}
use Rattle.text_pieces.proofs.Telling.{all_told, failed, told_start}
use Rattle.text_pieces.proofs.text.read_all.Goals as goal

pub chunks-init : goal.chunks-init
chunks-init g c = (omega arith, rw (c.new-chunks.ensures.items, c.room_for-pieces.ensures) (told_start g.T.Told.says c.args.told.now c.args.block.now))

pub chunks-preserved : goal.chunks-preserved
chunks-preserved g c =
    let s = c.chunks in
    let text = c.args.block.now in
    let cs = map shown s.table.chunks.items in
    let number : length cs ≡ c.in_ok-number.number = sym (c.in_ok-number.ensures ∙ c.chunk_count.ensures) in
    let part = c.in-Ok.part in
    let opened = c.in-Ok.ensures.reads c.args.told.now cs number s.invariant.1 in
    let items : map shown c.push.new.self.items ≡ cs ++ shown part.chunk ∷ [] = ap (map shown) c.in_ok-push-in-Ok.ensures.items ∙ map-append shown s.table.chunks.items (part.chunk ∷ []) in
    (c.in-Ok.ensures.last.0, rw items opened)

pub invariant_of-result : goal.invariant_of-result
invariant_of-result g c =
    let s = c.chunks in
    let text = c.args.block.now in
    let cs = map shown s.table.chunks.items in
    let number : length cs ≡ c.in_ok-number.number = sym (c.in_ok-number.ensures ∙ c.chunk_count.ensures) in
    let part = c.in-Ok.part in
    let opened = c.in-Ok.ensures.reads c.args.told.now cs number s.invariant.1 in
    let items : map shown c.push.new.self.items ≡ cs ++ shown part.chunk ∷ [] = ap (map shown) c.in_ok-push-in-Ok.ensures.items ∙ map-append shown s.table.chunks.items (part.chunk ∷ []) in
    let rest = rw c.as_slice-text.ensures at (c.in_ok-tail-in-Ok.ensures.items ∙ take_rest c.as_slice-text.result.now part.pos) in
    rw (items, c.as_slice-text.ensures) (opened_text text (cs ++ shown part.chunk ∷ []) opened.recs (map (option_map kept) c.read_chunk.new.pieces.slots) part.mode part.pos _ opened.opened rest c.tails_are_found.ensures c.tails_may_end.ensures (c.in-Ok.ensures.last.1 c.if-part.true) c.requires)

pub returns-then-part-clause-opens : goal.returns-then-part-clause-opens
returns-then-part-clause-opens g c =
    let s = c.chunks in
    let text = c.args.block.now in
    let cs = map shown s.table.chunks.items in
    let number : length cs ≡ c.in_ok-number.number = sym (c.in_ok-number.ensures ∙ c.chunk_count.ensures) in
    let part = c.in-Ok.part in
    let opened = c.in-Ok.ensures.reads c.args.told.now cs number s.invariant.1 in
    let items : map shown c.push.new.self.items ≡ cs ++ shown part.chunk ∷ [] = ap (map shown) c.in_ok-push-in-Ok.ensures.items ∙ map-append shown s.table.chunks.items (part.chunk ∷ []) in
    let rest = rw c.as_slice-text.ensures at (c.in_ok-tail-in-Ok.ensures.items ∙ take_rest c.as_slice-text.result.now part.pos) in
    let slots = map (option_map kept) c.read_chunk.new.pieces.slots in
    let front = cs ++ shown part.chunk ∷ [] in
    let whole = opened_whole text front opened.recs slots part.mode part.pos _ opened.opened rest in
    let own = opened_text text front opened.recs slots part.mode part.pos _ opened.opened rest c.tails_are_found.ensures c.tails_may_end.ensures (c.in-Ok.ensures.last.1 c.if-part.true) c.requires in
    rw items (whole, subst (λ (t : List ℕ). IsOk (read_keyless t)) whole (opened_reads c.texts_are_read.ensures _ own))

pub returns-then-part-clause-told : goal.returns-then-part-clause-told
returns-then-part-clause-told g c =
    let s = c.chunks in
    let text = c.args.block.now in
    let cs = map shown s.table.chunks.items in
    let number : length cs ≡ c.in_ok-number.number = sym (c.in_ok-number.ensures ∙ c.chunk_count.ensures) in
    let part = c.in-Ok.part in
    let opened = c.in-Ok.ensures.reads c.args.told.now cs number s.invariant.1 in
    let items : map shown c.push.new.self.items ≡ cs ++ shown part.chunk ∷ [] = ap (map shown) c.in_ok-push-in-Ok.ensures.items ∙ map-append shown s.table.chunks.items (part.chunk ∷ []) in
    let rest = rw c.as_slice-text.ensures at (c.in_ok-tail-in-Ok.ensures.items ∙ take_rest c.as_slice-text.result.now part.pos) in
    let slots = map (option_map kept) c.read_chunk.new.pieces.slots in
    rw items (all_told g.T.Told.says c.args.told.now c.read_chunk.new.told text (cs ++ shown part.chunk ∷ []) slots part.mode part.pos _ opened rest c.texts_are_read.ensures c.tails_are_found.ensures c.tails_may_end.ensures (c.in-Ok.ensures.last.1 c.if-part.true) c.requires)

pub returns-in-Err-clause-opens : goal.returns-in-Err-clause-opens
returns-in-Err-clause-opens g c =
    let s = c.chunks in
    let text = c.args.block.now in
    let cs = map shown s.table.chunks.items in
    let number : length cs ≡ c.in_ok-number.number = sym (c.in_ok-number.ensures ∙ c.chunk_count.ensures) in
    failed g.T.Told.says g.row.A.Denot text cs s.mode s.pos c.in_ok-number.number (map (option_map kept) s.table.pieces.slots) (map (option_map kept) c.read_chunk.new.pieces.slots) c.args.told.now s.told c.read_chunk.new.told c.in-Err.error c.requires number s.invariant.1 c.in-Err.ensures.reads
