use Rattle.std.proofs.Common.{◌≤◌, arith, refl, ◌∙◌}
use Rattle.rereading.proofs.AllBytes.{window_within}
use Rattle.rereading.proofs.Ends.{counted_more, ended, failed, holds_start, pushed}
use Rattle.rereading.proofs.Going.{going_start}
use Rattle.rereading.proofs.Shared.{unshared_more}
use Rattle.rereading.proofs.Tries.{few_again}
use Rattle.rereading.proofs.Windows.{tight_none}
use Rattle.rereading.specs.Rereading.{all_bytes}
use Rattle.rereading.proofs.reread.reread.Goals as goal

pub statements-init : goal.statements-init
statements-init g c =
    let raw = c.args.raw.now in
    let segments = g.S.Segments.listed c.args.segments.now in
    record {
      pos = omega arith;
      few = omega arith;
      again = omega arith;
      counted = rw c.new-pieces.ensures.items refl;
      holds = holds_start raw segments c.in_ok-from_slice.field-0.items c.in_ok-from_slice.ensures.items;
      tight = tight_none raw segments 0 0 refl;
      unshared = rw c.new-pieces.ensures.items tt;
      going = rw c.new-pieces.ensures.items (going_start c.args.first (all_bytes raw segments));
    }

pub returns-in-Err : goal.returns-in-Err
returns-in-Err g c =
    let s = c.statements in
    let i = s.invariant in
    let window = c.next_new.new.window in
    failed c.args.first c.args.raw.now (g.S.Segments.listed c.args.segments.now) c.pieces_are_read.ensures window.bytes.items window.used s.pos s.mode s.pieces.items c.in-Err.error i.going (c.in-Err.ensures.new c.args.raw.now i.holds i.tight)

pub statements-smaller : goal.statements-smaller
statements-smaller g c =
    let i = c.statements.invariant in
    let x = c.in-Ok-Some in
    let window = c.next_new.new.window in
    let next = rw x.field-0-is at (x.ensures.new c.args.raw.now i.holds i.tight) in
    omega (arith, next.1.0, next.1.1, window_within c.args.raw.now (g.S.Segments.listed c.args.segments.now) window.used window.bytes.items next.0)

pub statements-preserved : goal.statements-preserved
statements-preserved g c =
    let s = c.statements in
    let i = s.invariant in
    let x = c.in-Ok-Some in
    let raw = c.args.raw.now in
    let segments = g.S.Segments.listed c.args.segments.now in
    let window = c.next_new.new.window in
    let next = rw x.field-0-is at (x.ensures.new raw i.holds i.tight) in
    let counts = rw x.field-0-is at x.ensures.counts in
    let tries = rw x.field-0-is at (x.ensures.again raw i.holds) in
    let put = c.in_ok-push_piece-in-Ok-Some.ensures in
    let bytes = rw c.deref.ensures.value at put.2 in
    record {
      pos = c.give_back.ensures.pos;
      few = omega (arith, i.few, counts, next.1.0);
      again = few_again raw segments s.window.used window.used s.again c.next_new.new.again c.give_back.new.self.used s.pos x.end tries i.again i.tight next.1.0 (c.give_back.ensures.kept raw next.0);
      counted = counted_more s.pieces.items c.push_piece.new.pieces.items put.0 s.reads c.next_new.new.reads put.1 i.counted counts;
      holds = c.give_back.ensures.holds raw next.0;
      tight = c.give_back.ensures.tight raw next.0;
      unshared = rw put.1 (unshared_more raw segments s.pieces.items put.0 s.pos s.mode put.3 i.going.at i.unshared next.2);
      going = rw put.1 (pushed c.args.first raw segments c.chains_join.ensures c.chains_lead.ensures c.modes_join.ensures c.apart_joins.ensures window.bytes.items window.used s.pos x.end s.mode x.after s.pieces.items put.0 c.requires.apart next.0 next.1 bytes put.3 i.going);
    }

pub returns : goal.returns
returns g c =
    let s = c.statements in
    let i = s.invariant in
    let x = c.in-Ok-None in
    let window = c.next_new.new.window in
    let stops = rw x.field-0-is at (x.ensures.new c.args.raw.now i.holds i.tight) in
    let counts = rw x.field-0-is at x.ensures.counts in
    let tries = rw x.field-0-is at (x.ensures.again c.args.raw.now i.holds) in
    let again : c.next_new.new.again ≤ window.used = omega (arith, tries, i.again) in
    let rest = rw c.deref-2.ensures.value at c.in_ok-from_slice-2.ensures.items in
    ended c.args.first c.args.raw.now (g.S.Segments.listed c.args.segments.now) c.tails_are_found.ensures window.bytes.items window.used s.pos s.mode _ x.ensures.pos stops.0 stops.1 i.going i.unshared (counts ∙ i.counted) again rest refl refl
