use Rattle.std.proofs.Common.{arith, refl}
use Rattle.std.specs.List.{range_with_len}
use Rattle.std.proofs.lemmas.List.FromFn.{length-range_with_len}
use Rattle.std.proofs.lemmas.List.Sums.{count_by-le-length}
use Rattle.lefdef_tokens.specs.Skipping.{begins_at}
use Rattle.lefdef_tokens.proofs.LaneCounts.{plain_run}
use Rattle.lefdef_tokens.proofs.PlainWords.{begins_none, few_words, many_bytes}
use Rattle.lefdef_tokens.proofs.plain.go_over.Goals as goal

pub loop-at-init : goal.loop-at-init
loop-at-init c = begins_none c.args.text.now c.args.from c.requires.within c.requires.apart

pub words_begun-count-requires-clause-within : goal.words_begun-count-requires-clause-within
words_begun-count-requires-clause-within c =
    let room = c.loop-at-test.true in
    (plain_run c.args.text.now c.loop-at.at c.plain_length-plain.result (omega arith) c.plain_length-plain.ensures).0

pub overflow_add-count : goal.overflow_add-count
overflow_add-count c =
    let room = c.loop-at-test.true in
    let run = plain_run c.args.text.now c.loop-at.at c.plain_length-plain.result (omega arith) c.plain_length-plain.ensures in
    let few = few_words c.args.text.now c.args.from c.loop-at.at c.loop-at.count c.loop-at.invariant in
    let words = count_by-le-length (begins_at c.args.text.now) (range_with_len c.loop-at.at c.plain_length-plain.result) in
    omega (arith, run.0, few, words, c.words_begun-count.ensures, length-range_with_len c.loop-at.at c.plain_length-plain.result)

pub overflow_add-at-in-loop-at : goal.overflow_add-at-in-loop-at
overflow_add-at-in-loop-at c =
    let room = c.loop-at-test.true in
    let run = plain_run c.args.text.now c.loop-at.at c.plain_length-plain.result (omega arith) c.plain_length-plain.ensures in
    omega (arith, run.0)

pub loop-at-preserved : goal.loop-at-preserved
loop-at-preserved c =
    let room = c.loop-at-test.true in
    let at = c.loop-at.at in
    let plain = c.plain_length-plain.result in
    let run = plain_run c.args.text.now at plain (omega arith) c.plain_length-plain.ensures in
    many_bytes c.args.text.now c.args.from at c.loop-at.count plain _ _ c.loop-at.invariant refl (omega (arith, run.0)) run.1 (omega (arith, c.words_begun-count.ensures))

pub returns-then-plain-lt64 : goal.returns-then-plain-lt64
returns-then-plain-lt64 c =
    let room = c.loop-at-test.true in
    let at = c.loop-at.at in
    let plain = c.plain_length-plain.result in
    let run = plain_run c.args.text.now at plain (omega arith) c.plain_length-plain.ensures in
    many_bytes c.args.text.now c.args.from at c.loop-at.count plain _ _ c.loop-at.invariant refl (omega (arith, run.0)) run.1 (omega (arith, c.words_begun-count.ensures))
