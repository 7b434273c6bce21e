use Rattle.std.proofs.Common.{◌≡◌, ◌∷◌, ◌++◌, take, map}
use Rattle.std.specs.Prelude.{flat_map}
use Rattle.std.specs.Fmt.{signed_decimal}
use Rattle.design_model.specs.Lines.{kind_word}
use Rattle.report_lines.proofs.lines.line_of.Given as goal

abbrev pub invariant-loop-word : goal.invariant-loop-word
invariant-loop-word g l = l.text.items ≡ kind_word l.fn.kind ++ flat_map (λ w. 32 ∷ w) (map (λ b. b.now) (take l.word-index l.fn.words))

abbrev pub invariant-loop-number : goal.invariant-loop-number
invariant-loop-number g l = l.text.items ≡ l.initial.text.items ++ flat_map (λ n. 32 ∷ signed_decimal n) (take l.number-index l.fn.nums)
