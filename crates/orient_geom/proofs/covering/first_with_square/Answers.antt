use Rattle.std.proofs.Common.{rules, tests}
use Rattle.std.proofs.lemmas.Iterator.{YieldsList-from_slice}
use Rattle.std.proofs.lemmas.Iterator.Search.{find_from_yields_List}
use Rattle.design_model.specs.Views.{rectangle_of}
use Rattle.place_rules.specs.Covering.{has_square}
use Rattle.orient_geom.proofs.Strips.{square_found}
use Rattle.orient_geom.proofs.covering.first_with_square.Goals as goal

pub returns : goal.returns
returns c = square_found c.args.list.now c.args.x c.args.y _ (find_from_yields_List (λ r. has_square c.args.x c.args.y (rectangle_of r)) _ _ _ c.find.ensures.ran (YieldsList-from_slice c.args.list.now cc) (λ x b q k. search (rules, tests)))
