use Rattle.std.proofs.Common.{◌≡◌, ◌≤◌, ◌-◌, ◌∙◌, ◌++◌, ℕ, List, [], sym, ap, subst, length, arith, slice_range}
use Rattle.std.specs.Prelude.{OnOk}
use Rattle.rereading.specs.Segments.{OldBytes}
use Rattle.text_pieces.specs.Behind.{kept_from, segments}
use Rattle.text_pieces.specs.Content.{Content, text_of}
use Rattle.text_pieces.specs.Tables.{table_of}
use Rattle.text_pieces.specs.Touched.{AreTouched}
use Rattle.text_pieces.proofs.Stretching.{few_ids, range_is, room, start_low}
use Rattle.text_pieces.proofs.text.TextPieces.append_range.Goals as goal

pub from_place-behind-requires-clause-few : goal.from_place-behind-requires-clause-few
from_place-behind-requires-clause-few g c =
    let s = c.self.inside in
    let t = c.self.invariant in
    let content : Content = record { table = table_of s.table; tail = s.tail.items; len = s.len } in
    few_ids content t

pub overflow_sub-hi : goal.overflow_sub-hi
overflow_sub-hi g c =
    let s = c.self.inside in
    let t = c.self.invariant in
    let content : Content = record { table = table_of s.table; tail = s.tail.items; len = s.len } in
    let lo = c.args.lo in
    let hi = c.args.hi in
    let p = c.first_touched-at.result in
    let b = c.first_touched-at.ensures in
    let order = c.requires.order in
    let within : hi ≤ length (text_of content) = rw (← c.self.view_is) at c.requires.within in
    let low = start_low content t lo hi [] p b order within in
    omega (arith, low, order)

pub overflow_sub-lo : goal.overflow_sub-lo
overflow_sub-lo g c =
    let s = c.self.inside in
    let t = c.self.invariant in
    let content : Content = record { table = table_of s.table; tail = s.tail.items; len = s.len } in
    let lo = c.args.lo in
    let hi = c.args.hi in
    let p = c.first_touched-at.result in
    let b = c.first_touched-at.ensures in
    let order = c.requires.order in
    let within : hi ≤ length (text_of content) = rw (← c.self.view_is) at c.requires.within in
    start_low content t lo hi [] p b order within

pub overflow_sub-hi-2 : goal.overflow_sub-hi-2
overflow_sub-hi-2 g c =
    let s = c.self.inside in
    let t = c.self.invariant in
    let content : Content = record { table = table_of s.table; tail = s.tail.items; len = s.len } in
    let lo = c.args.lo in
    let hi = c.args.hi in
    let p = c.first_touched-at.result in
    let b = c.first_touched-at.ensures in
    let order = c.requires.order in
    let within : hi ≤ length (text_of content) = rw (← c.self.view_is) at c.requires.within in
    let low = start_low content t lo hi [] p b order within in
    omega (arith, low, order)

pub append_part-requires-clause-within : goal.append_part-requires-clause-within
append_part-requires-clause-within g c =
    let s = c.self.inside in
    let t = c.self.invariant in
    let content : Content = record { table = table_of s.table; tail = s.tail.items; len = s.len } in
    let lo = c.args.lo in
    let hi = c.args.hi in
    let p = c.first_touched-at.result in
    let b = c.first_touched-at.ensures in
    let order = c.requires.order in
    let within : hi ≤ length (text_of content) = rw (← c.self.view_is) at c.requires.within in
    let behind : List OldBytes = segments (kept_from content.table p.chunk p.index) content.tail in
    let behind_is : c.from_place-behind.result ≡ behind = c.from_place-behind.ensures ∙ ap (segments (kept_from content.table p.chunk p.index)) c.deref.ensures.value in
    let old = c.in-Ok.old.items in
    let n = c.in-Ok.field-0-1 in
    let touched : AreTouched behind (hi - p.start) old n = subst (λ (ss : List OldBytes). AreTouched ss (hi - p.start) old n) behind_is c.in-Ok.ensures in
    let long = ap (λ (l : List ℕ). length l) c.deref-2.ensures.value in
    let enough = room content t lo hi [] p b order within old n touched in
    omega (arith, long, enough)

pub returns : goal.returns
returns g c =
    let s = c.self.inside in
    let t = c.self.invariant in
    let content : Content = record { table = table_of s.table; tail = s.tail.items; len = s.len } in
    let lo = c.args.lo in
    let hi = c.args.hi in
    let p = c.first_touched-at.result in
    let b = c.first_touched-at.ensures in
    let order = c.requires.order in
    let within : hi ≤ length (text_of content) = rw (← c.self.view_is) at c.requires.within in
    let behind : List OldBytes = segments (kept_from content.table p.chunk p.index) content.tail in
    let behind_is : c.from_place-behind.result ≡ behind = c.from_place-behind.ensures ∙ ap (segments (kept_from content.table p.chunk p.index)) c.deref.ensures.value in
    let old = c.in-Ok.old.items in
    let n = c.in-Ok.field-0-1 in
    let touched : AreTouched behind (hi - p.start) old n = subst (λ (ss : List OldBytes). AreTouched ss (hi - p.start) old n) behind_is c.in-Ok.ensures in
    let same : slice_range c.deref-2.result.now (lo - p.start) (hi - p.start) ≡ slice_range (text_of content) lo hi =
    ap (λ (l : List ℕ). slice_range l (lo - p.start) (hi - p.start)) c.deref-2.ensures.value ∙ sym (range_is content t lo hi [] p b order within old n touched) in
    rw (← c.self.view_is) (subst (λ (l : List ℕ). OnOk c.append_part.result (c.append_part.new.out.items ≡ c.args.out.now.items ++ l)) same c.append_part.ensures)
