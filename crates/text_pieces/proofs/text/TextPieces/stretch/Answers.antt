use Rattle.std.proofs.Common.{◌≡◌, ◌≤◌, ◌-◌, ◌∙◌, ◌++◌, ℕ, List, Err, refl, sym, ap, subst, length, drop, take, arith}
use Rattle.std.specs.List.{slice_get}
use Rattle.std.proofs.lemmas.List.{length-drop}
use Rattle.std.proofs.lemmas.Result.{err_from_is_err_and}
use Rattle.design_model.specs.declared.TheConstants.{MAX_TEXT}
use Rattle.design_model.specs.declared.mode.Mode.{Mode}
use Rattle.statement_model.specs.Cuts.{Cut}
use Rattle.rereading.specs.Rereading.{IsReread, Rereads}
use Rattle.rereading.specs.Segments.{OldBytes, AreFull, BeginApart, mode_at}
use Rattle.text_pieces.specs.Behind.{kept_from, segments}
use Rattle.text_pieces.specs.Content.{Content, text_of}
use Rattle.text_pieces.specs.Stretches.{ReadsStretch, cut_text}
use Rattle.text_pieces.specs.Tables.{table_of}
use Rattle.text_pieces.specs.Touched.{AreTouched}
use Rattle.text_pieces.proofs.ReadAgain.{few_again}
use Rattle.text_pieces.proofs.Stretching.{accepted, begin_apart, chains, ended, few_ids, few_segments, full, mode_is, refused, room, some_segments, start_low}
use Rattle.text_pieces.proofs.text.TextPieces.stretch.Goals as goal

pub from_place-behind-requires-clause-few : goal.from_place-behind-requires-clause-few
from_place-behind-requires-clause-few g c =
    let s = c.self.inside in
    let t = c.self.invariant in
    let content : Content = record { table = table_of s.table; tail = s.tail.items; len = s.len } in
    few_ids content t

pub overflow_sub-hi : goal.overflow_sub-hi
overflow_sub-hi g c =
    let s = c.self.inside in
    let t = c.self.invariant in
    let content : Content = record { table = table_of s.table; tail = s.tail.items; len = s.len } in
    let lo = c.args.lo in
    let hi = c.args.hi in
    let put = c.args.put.now in
    let p = c.first_touched-at.result in
    let b = c.first_touched-at.ensures in
    let order = c.requires.order in
    let within : hi ≤ length (text_of content) = rw (← c.self.view_is) at c.requires.within in
    let low = start_low content t lo hi put p b order within in
    omega (arith, low, order)

pub overflow_sub-lo : goal.overflow_sub-lo
overflow_sub-lo g c =
    let s = c.self.inside in
    let t = c.self.invariant in
    let content : Content = record { table = table_of s.table; tail = s.tail.items; len = s.len } in
    let lo = c.args.lo in
    let hi = c.args.hi in
    let put = c.args.put.now in
    let p = c.first_touched-at.result in
    let b = c.first_touched-at.ensures in
    let order = c.requires.order in
    let within : hi ≤ length (text_of content) = rw (← c.self.view_is) at c.requires.within in
    start_low content t lo hi put p b order within

pub overflow_sub-hi-2 : goal.overflow_sub-hi-2
overflow_sub-hi-2 g c =
    let s = c.self.inside in
    let t = c.self.invariant in
    let content : Content = record { table = table_of s.table; tail = s.tail.items; len = s.len } in
    let lo = c.args.lo in
    let hi = c.args.hi in
    let put = c.args.put.now in
    let p = c.first_touched-at.result in
    let b = c.first_touched-at.ensures in
    let order = c.requires.order in
    let within : hi ≤ length (text_of content) = rw (← c.self.view_is) at c.requires.within in
    let low = start_low content t lo hi put p b order within in
    omega (arith, low, order)

pub spliced-requires-clause-lo : goal.spliced-requires-clause-lo
spliced-requires-clause-lo g c =
    let s = c.self.inside in
    let t = c.self.invariant in
    let content : Content = record { table = table_of s.table; tail = s.tail.items; len = s.len } in
    let lo = c.args.lo in
    let hi = c.args.hi in
    let put = c.args.put.now in
    let p = c.first_touched-at.result in
    let b = c.first_touched-at.ensures in
    let order = c.requires.order in
    let within : hi ≤ length (text_of content) = rw (← c.self.view_is) at c.requires.within in
    let behind : List OldBytes = segments (kept_from content.table p.chunk p.index) content.tail in
    let behind_is : c.from_place-behind.result ≡ behind = c.from_place-behind.ensures ∙ ap (segments (kept_from content.table p.chunk p.index)) c.deref.ensures.value in
    let old = c.in-Ok.old.items in
    let n = c.in-Ok.passed in
    let touched : AreTouched behind (hi - p.start) old n = subst (λ (ss : List OldBytes). AreTouched ss (hi - p.start) old n) behind_is c.in-Ok.ensures in
    let long = ap (λ (l : List ℕ). length l) c.deref-2.ensures.value in
    let enough = room content t lo hi put p b order within old n touched in
    omega (arith, long, enough, order)

pub spliced-requires-clause-hi : goal.spliced-requires-clause-hi
spliced-requires-clause-hi g c =
    let s = c.self.inside in
    let t = c.self.invariant in
    let content : Content = record { table = table_of s.table; tail = s.tail.items; len = s.len } in
    let lo = c.args.lo in
    let hi = c.args.hi in
    let put = c.args.put.now in
    let p = c.first_touched-at.result in
    let b = c.first_touched-at.ensures in
    let order = c.requires.order in
    let within : hi ≤ length (text_of content) = rw (← c.self.view_is) at c.requires.within in
    let behind : List OldBytes = segments (kept_from content.table p.chunk p.index) content.tail in
    let behind_is : c.from_place-behind.result ≡ behind = c.from_place-behind.ensures ∙ ap (segments (kept_from content.table p.chunk p.index)) c.deref.ensures.value in
    let old = c.in-Ok.old.items in
    let n = c.in-Ok.passed in
    let touched : AreTouched behind (hi - p.start) old n = subst (λ (ss : List OldBytes). AreTouched ss (hi - p.start) old n) behind_is c.in-Ok.ensures in
    let long = ap (λ (l : List ℕ). length l) c.deref-2.ensures.value in
    let enough = room content t lo hi put p b order within old n touched in
    omega (arith, long, enough, order)

pub reread-requires-clause-apart : goal.reread-requires-clause-apart
reread-requires-clause-apart g c =
    let s = c.self.inside in
    let t = c.self.invariant in
    let content : Content = record { table = table_of s.table; tail = s.tail.items; len = s.len } in
    let lo = c.args.lo in
    let hi = c.args.hi in
    let put = c.args.put.now in
    let p = c.first_touched-at.result in
    let b = c.first_touched-at.ensures in
    let order = c.requires.order in
    let within : hi ≤ length (text_of content) = rw (← c.self.view_is) at c.requires.within in
    let behind : List OldBytes = segments (kept_from content.table p.chunk p.index) content.tail in
    let behind_is : c.from_place-behind.result ≡ behind = c.from_place-behind.ensures ∙ ap (segments (kept_from content.table p.chunk p.index)) c.deref.ensures.value in
    let old = c.in-Ok.old.items in
    let n = c.in-Ok.passed in
    let touched : AreTouched behind (hi - p.start) old n = subst (λ (ss : List OldBytes). AreTouched ss (hi - p.start) old n) behind_is c.in-Ok.ensures in
    let later_is : c.after-later.result ≡ drop n behind = c.after-later.ensures ∙ ap (drop n) behind_is in
    subst BeginApart (sym later_is) (begin_apart content t p.chunk p.index b.within n (touched.some (some_segments content t lo hi put p b order within)))

pub reread-requires-clause-full : goal.reread-requires-clause-full
reread-requires-clause-full g c =
    let s = c.self.inside in
    let t = c.self.invariant in
    let content : Content = record { table = table_of s.table; tail = s.tail.items; len = s.len } in
    let lo = c.args.lo in
    let hi = c.args.hi in
    let put = c.args.put.now in
    let p = c.first_touched-at.result in
    let b = c.first_touched-at.ensures in
    let order = c.requires.order in
    let within : hi ≤ length (text_of content) = rw (← c.self.view_is) at c.requires.within in
    let behind : List OldBytes = segments (kept_from content.table p.chunk p.index) content.tail in
    let behind_is : c.from_place-behind.result ≡ behind = c.from_place-behind.ensures ∙ ap (segments (kept_from content.table p.chunk p.index)) c.deref.ensures.value in
    let old = c.in-Ok.old.items in
    let n = c.in-Ok.passed in
    let touched : AreTouched behind (hi - p.start) old n = subst (λ (ss : List OldBytes). AreTouched ss (hi - p.start) old n) behind_is c.in-Ok.ensures in
    let later_is : c.after-later.result ≡ drop n behind = c.after-later.ensures ∙ ap (drop n) behind_is in
    subst AreFull (sym later_is) (full content t p.chunk p.index b.within n)

pub returns-in_err-new : goal.returns-in_err-new
returns-in_err-new g c =
    let s = c.self.inside in
    let t = c.self.invariant in
    let content : Content = record { table = table_of s.table; tail = s.tail.items; len = s.len } in
    let lo = c.args.lo in
    let hi = c.args.hi in
    let put = c.args.put.now in
    let p = c.first_touched-at.result in
    let b = c.first_touched-at.ensures in
    let order = c.requires.order in
    let within : hi ≤ length (text_of content) = rw (← c.self.view_is) at c.requires.within in
    let behind : List OldBytes = segments (kept_from content.table p.chunk p.index) content.tail in
    let behind_is : c.from_place-behind.result ≡ behind = c.from_place-behind.ensures ∙ ap (segments (kept_from content.table p.chunk p.index)) c.deref.ensures.value in
    let old = c.in-Ok.old.items in
    let n = c.in-Ok.passed in
    let touched : AreTouched behind (hi - p.start) old n = subst (λ (ss : List OldBytes). AreTouched ss (hi - p.start) old n) behind_is c.in-Ok.ensures in
    let raw = take (lo - p.start) old ++ (put ++ drop (hi - p.start) old) in
    let raw_is : c.deref-3.result.now ≡ raw = c.deref-3.ensures.value ∙ c.in-Ok-spliced.ensures ∙ ap (λ (l : List ℕ). take (lo - p.start) l ++ (put ++ drop (hi - p.start) l)) c.deref-2.ensures.value in
    let later_is : c.after-later.result ≡ drop n behind = c.after-later.ensures ∙ ap (drop n) behind_is in
    let mid = (chains content t p.chunk p.index b.within).0 in
    let mode_here : c.first_mode-mode.result ≡ mid = c.first_mode-mode.ensures mid (ap (λ (ss : List OldBytes). mode_at ss 0) behind_is ∙ mode_is content t p.chunk p.index b.within) in
    let e = err_from_is_err_and c.from_residual.result c.from_residual.ensures.1 in
    let fits : length (cut_text content (record { lo = lo; hi = hi; put = put })) ≤ MAX_TEXT = rw (← c.self.view_is) at c.requires.fits in
    let cut : Cut = record { lo = lo; hi = hi; put = put } in
    let f = c.in_err-new.field-0.0 in
    rw (e.1, e.2) (subst (λ (d : Content). ReadsStretch {A = g.row.A.Denot} d cut (Err f)) c.self.view_is (refused content t lo hi put p b order within old n touched g.row.A.Denot c.tokens_move.ensures c.pieces_are_read.ensures fits c.in_err-new.field-0.0
    (subst (λ (m : Mode). Rereads {A = g.row.A.Denot} m raw (drop n behind) (Err f)) mode_here
    (subst (λ (r : List ℕ). Rereads {A = g.row.A.Denot} c.first_mode-mode.result r (drop n behind) (Err f)) raw_is
    (subst (λ (ss : List OldBytes). Rereads {A = g.row.A.Denot} c.first_mode-mode.result c.deref-3.result.now ss (Err f)) later_is c.in_err-new.ensures)))))

pub overflow_add-out : goal.overflow_add-out
overflow_add-out g c =
    let s = c.self.inside in
    let t = c.self.invariant in
    let content : Content = record { table = table_of s.table; tail = s.tail.items; len = s.len } in
    let lo = c.args.lo in
    let hi = c.args.hi in
    let put = c.args.put.now in
    let p = c.first_touched-at.result in
    let b = c.first_touched-at.ensures in
    let order = c.requires.order in
    let within : hi ≤ length (text_of content) = rw (← c.self.view_is) at c.requires.within in
    let behind : List OldBytes = segments (kept_from content.table p.chunk p.index) content.tail in
    let behind_is : c.from_place-behind.result ≡ behind = c.from_place-behind.ensures ∙ ap (segments (kept_from content.table p.chunk p.index)) c.deref.ensures.value in
    let old = c.in-Ok.old.items in
    let n = c.in-Ok.passed in
    let touched : AreTouched behind (hi - p.start) old n = subst (λ (ss : List OldBytes). AreTouched ss (hi - p.start) old n) behind_is c.in-Ok.ensures in
    let raw = take (lo - p.start) old ++ (put ++ drop (hi - p.start) old) in
    let raw_is : c.deref-3.result.now ≡ raw = c.deref-3.ensures.value ∙ c.in-Ok-spliced.ensures ∙ ap (λ (l : List ℕ). take (lo - p.start) l ++ (put ++ drop (hi - p.start) l)) c.deref-2.ensures.value in
    let later_is : c.after-later.result ≡ drop n behind = c.after-later.ensures ∙ ap (drop n) behind_is in
    let mid = (chains content t p.chunk p.index b.within).0 in
    let mode_here : c.first_mode-mode.result ≡ mid = c.first_mode-mode.ensures mid (ap (λ (ss : List OldBytes). mode_at ss 0) behind_is ∙ mode_is content t p.chunk p.index b.within) in
    let new = c.in_ok-new.new in
    let is : IsReread mid raw (drop n behind) new =
    subst (λ (m : Mode). IsReread m raw (drop n behind) new) mode_here
    (subst (λ (r : List ℕ). IsReread c.first_mode-mode.result r (drop n behind) new) raw_is
    (subst (λ (ss : List OldBytes). IsReread c.first_mode-mode.result c.deref-3.result.now ss new) later_is c.in_ok-new.ensures)) in
    let few = few_segments content t lo hi put p b order within old n touched in
    omega (arith, few, is.used, touched.within, length-drop n behind)

pub returns : goal.returns
returns g c =
    let s = c.self.inside in
    let t = c.self.invariant in
    let content : Content = record { table = table_of s.table; tail = s.tail.items; len = s.len } in
    let lo = c.args.lo in
    let hi = c.args.hi in
    let put = c.args.put.now in
    let p = c.first_touched-at.result in
    let b = c.first_touched-at.ensures in
    let order = c.requires.order in
    let within : hi ≤ length (text_of content) = rw (← c.self.view_is) at c.requires.within in
    let behind : List OldBytes = segments (kept_from content.table p.chunk p.index) content.tail in
    let behind_is : c.from_place-behind.result ≡ behind = c.from_place-behind.ensures ∙ ap (segments (kept_from content.table p.chunk p.index)) c.deref.ensures.value in
    let old = c.in-Ok.old.items in
    let n = c.in-Ok.passed in
    let touched : AreTouched behind (hi - p.start) old n = subst (λ (ss : List OldBytes). AreTouched ss (hi - p.start) old n) behind_is c.in-Ok.ensures in
    let raw = take (lo - p.start) old ++ (put ++ drop (hi - p.start) old) in
    let raw_is : c.deref-3.result.now ≡ raw = c.deref-3.ensures.value ∙ c.in-Ok-spliced.ensures ∙ ap (λ (l : List ℕ). take (lo - p.start) l ++ (put ++ drop (hi - p.start) l)) c.deref-2.ensures.value in
    let later_is : c.after-later.result ≡ drop n behind = c.after-later.ensures ∙ ap (drop n) behind_is in
    let mid = (chains content t p.chunk p.index b.within).0 in
    let mode_here : c.first_mode-mode.result ≡ mid = c.first_mode-mode.ensures mid (ap (λ (ss : List OldBytes). mode_at ss 0) behind_is ∙ mode_is content t p.chunk p.index b.within) in
    let new = c.in_ok-new.new in
    let is : IsReread mid raw (drop n behind) new =
    subst (λ (m : Mode). IsReread m raw (drop n behind) new) mode_here
    (subst (λ (r : List ℕ). IsReread c.first_mode-mode.result r (drop n behind) new) raw_is
    (subst (λ (ss : List OldBytes). IsReread c.first_mode-mode.result c.deref-3.result.now ss new) later_is c.in_ok-new.ensures)) in
    let v = c.in-Ok-tail_after.tail.items in
    let follows = ended content t lo hi put p b order within old n touched g.row.A.Denot new is c.tails_may_end.ensures (slice_get (drop n behind) new.used) v refl (rw (later_is, c.deref-4.ensures.value) at c.in-Ok-tail_after.ensures) in
    let both = accepted content t lo hi put p b order within old n touched g.row.A.Denot new is v follows in
    rw (← c.self.view_is) (record { within = b.within; inside = b.inside; ends = both.0; whole = both.1; read = is.reads; few = few_again content t lo hi put p b order within old n touched g.row.A.Denot new is c.texts_are_read.ensures v follows })
