use Rattle.std.proofs.Common.{◌≡◌, ◌++◌, ◌∷◌, [], drop, flat_map, map}
use Rattle.design_model.specs.Order.{texts}
use Rattle.script_lines.proofs.answer.check_text.Given as goal

abbrev pub invariant-loop-line : goal.invariant-loop-line
invariant-loop-line g l = l.text.items ++ flat_map (λ b. b ++ 10 ∷ []) (texts (map (λ x. x.now) (drop l.line-index l.lines))) ≡ flat_map (λ b. b ++ 10 ∷ []) (texts (map (λ x. x.now) l.lines))
