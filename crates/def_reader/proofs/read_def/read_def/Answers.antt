use Rattle.std.proofs.Common.{ℕ, length, arith, refl, sym, ap, ◌∙◌, Err}
use Rattle.std.proofs.lemmas.Result.{err_from_is_err_and}
use Rattle.design_model.specs.declared.mode.Mode.TheVariants.{Top}
use Rattle.statement_model.specs.Tokens.{left_from}
use Rattle.statement_model.specs.Reading.{fault_at}
use Rattle.lefdef_tokens.specs.Views.{pieces_of}
use Rattle.lefdef_tokens.specs.declared.span.Span.{Span}
use Rattle.statement_reader.proofs.SoFar.{too_long}
use Rattle.def_grammar.specs.Records.{def}
use Rattle.def_reader.specs.StatementViews.{record_view}
use Rattle.def_reader.proofs.CheckSteps.{all_spans, belongs, going_ends, going_fault, going_lacks, going_on, going_repeats, going_start, one_more_span, spans_at, starts}
use Rattle.def_reader.proofs.read_def.read_def.Goals as goal

pub returns-then-text-gt-MAX_TEXT-clause-reads : goal.returns-then-text-gt-MAX_TEXT-clause-reads
returns-then-text-gt-MAX_TEXT-clause-reads g c = too_long def Top c.args.text.now c.if-text-gt-MAX_TEXT.true

pub loop-seen-init : goal.loop-seen-init
loop-seen-init g c = record {
  within = omega arith;
  spans = rw c.new-spans.ensures.items refl;
  going = going_start c.args.text.now c.new-seen.result.words.keys c.new-seen.result.names.keys c.if-text-gt-MAX_TEXT.false c.new-seen.ensures.words c.new-seen.ensures.names;
}

pub returns-in_err-read-clause-reads : goal.returns-in_err-read-clause-reads
returns-in_err-read-clause-reads g c =
    let l = c.loop-seen in
    let p = err_from_is_err_and c.from_residual.result c.from_residual.ensures.1 in
    rw (p.1, p.2) (going_fault c.args.text.now l.seen.words.keys l.seen.names.keys l.mode l.pos l.invariant.going c.in_err-read.field-0.0 c.in_err-read.ensures.reads)

pub returns-in_err-code-clause-reads : goal.returns-in_err-code-clause-reads
returns-in_err-code-clause-reads g c =
    let l = c.loop-seen in
    let going = l.invariant.going in
    let read = c.in-Some.read in
    let r = rw c.in-Some.is at c.in_ok-read.ensures.reads in
    let cut = rw c.in-Some.is at c.in_ok-read.ensures.cuts in
    let here = belongs c.args.text.now l.seen.words.keys l.seen.names.keys l.mode l.pos going read.place (left_from c.args.text.now read.end) (pieces_of read.tokens) (record_view read.statement) cut r.2 in
    let p = err_from_is_err_and c.from_residual-in_err-code.result c.from_residual-in_err-code.ensures.1 in
    rw (p.1, p.2, c.in_err-code.ensures going.latest going.keys going.same (rw c.key.ensures here)) tt

pub returns-in-Some-2-clause-reads : goal.returns-in-Some-2-clause-reads
returns-in-Some-2-clause-reads g c =
    let l = c.loop-seen in
    let going = l.invariant.going in
    let read = c.in-Some.read in
    let r = rw c.in-Some.is at c.in_ok-read.ensures.reads in
    let cut = rw c.in-Some.is at c.in_ok-read.ensures.cuts in
    let here = belongs c.args.text.now l.seen.words.keys l.seen.names.keys l.mode l.pos going read.place (left_from c.args.text.now read.end) (pieces_of read.tokens) (record_view read.statement) cut r.2 in
    let n = c.in_ok-code.ensures going.latest going.keys going.same (rw c.key.ensures here) in
    let place = rw c.in-Some.is at c.in_ok-read.ensures.span in
    going_repeats c.args.text.now l.seen.words.keys l.seen.names.keys l.mode l.pos going read.place (left_from c.args.text.now read.end) (pieces_of read.tokens) (record_view read.statement) cut r.2 c.in-Some-2.code (rw c.key.ensures at n.0 ∙ c.in-Some-2.is)
    ∙ ap (λ (k : ℕ). Err (fault_at c.in-Some-2.code k)) (sym (starts (pieces_of read.tokens)) ∙ ap (λ (s : Span). s.lo) (place ∙ sym c.span-span.ensures))

pub loop-seen-preserved : goal.loop-seen-preserved
loop-seen-preserved g c =
    let l = c.loop-seen in
    let going = l.invariant.going in
    let read = c.in-Some.read in
    let r = rw c.in-Some.is at c.in_ok-read.ensures.reads in
    let cut = rw c.in-Some.is at c.in_ok-read.ensures.cuts in
    let here = belongs c.args.text.now l.seen.words.keys l.seen.names.keys l.mode l.pos going read.place (left_from c.args.text.now read.end) (pieces_of read.tokens) (record_view read.statement) cut r.2 in
    let n = c.in_ok-code.ensures going.latest going.keys going.same (rw c.key.ensures here) in
    let place = rw c.in-Some.is at c.in_ok-read.ensures.span in
    record {
      within = r.1;
      spans = rw c.in_ok-push.ensures.items (one_more_span l.mode read.place c.args.text.now l.pos read.end (pieces_of read.tokens) (record_view read.statement) (spans_at Top c.args.text.now 0) l.spans.items c.span-span.result cut r.2 (place ∙ sym c.span-span.ensures) l.invariant.spans);
      going = going_on c.args.text.now l.seen.words.keys l.seen.names.keys l.mode l.pos going read.place (left_from c.args.text.now read.end) (pieces_of read.tokens) (record_view read.statement) cut r.2 read.end c.note.new.self.words.keys c.note.new.self.names.keys refl (rw c.key.ensures at n.0 ∙ c.in_default-2.is) (rw c.key.ensures at (n.1 c.in_default-2.is));
    }

pub returns-then-has-clause-reads : goal.returns-then-has-clause-reads
returns-then-has-clause-reads g c =
    let l = c.loop-seen in
    let r = rw c.in_default.is at c.in_ok-read.ensures.reads in
    let cut = rw c.in_default.is at c.in_ok-read.ensures.cuts in
    going_ends c.args.text.now l.seen.words.keys l.seen.names.keys l.mode l.pos l.invariant.going (length c.args.text.now) cut r (sym c.has.ensures ∙ c.if-has.true)

pub returns-then-has-clause-spans : goal.returns-then-has-clause-spans
returns-then-has-clause-spans g c = λ design reads.
    let l = c.loop-seen in
    let cut = rw c.in_default.is at c.in_ok-read.ensures.cuts in
    c.from_vec.ensures ∙ all_spans c.records_are_read.ensures.located c.args.text.now l.mode l.pos (length c.args.text.now) l.spans.items design reads l.invariant.spans cut

pub returns-else-has-clause-reads : goal.returns-else-has-clause-reads
returns-else-has-clause-reads g c =
    let l = c.loop-seen in
    let r = rw c.in_default.is at c.in_ok-read.ensures.reads in
    let cut = rw c.in_default.is at c.in_ok-read.ensures.cuts in
    going_lacks c.args.text.now l.seen.words.keys l.seen.names.keys l.mode l.pos l.invariant.going (length c.args.text.now) cut r (sym c.has.ensures ∙ c.if-has.false)
