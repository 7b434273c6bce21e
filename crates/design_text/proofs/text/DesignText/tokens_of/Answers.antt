use Rattle.std.proofs.Common.{List, ap}
use Rattle.std.specs.Option.{option_map}
use Rattle.statement_model.specs.Tokens.{Token}
use Rattle.def_grammar.specs.Records.{Record}
use Rattle.design_text.proofs.text.DesignText.tokens_of.Goals as goal

pub returns-in_default-clause-gives : goal.returns-in_default-clause-gives
returns-in_default-clause-gives g c = (ap (option_map (λ (x : List Token × Record). x.0)) c.in_default.ensures.gives)

pub returns-clause-gives : goal.returns-clause-gives
returns-clause-gives g c = ap (option_map (λ (x : List Token × Record). x.0)) c.in-Some.ensures.gives
