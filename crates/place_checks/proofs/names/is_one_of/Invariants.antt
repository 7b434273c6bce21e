use Rattle.std.proofs.Common.{◌≡◌, drop, map}
use Rattle.lefdef_tokens.specs.Views.{word_view}
use Rattle.design_rules.specs.PlaceLines.{is_one_of}
use Rattle.place_checks.proofs.names.is_one_of.Given as goal

abbrev pub invariant-loop-other : goal.invariant-loop-other
invariant-loop-other l = is_one_of (map word_view (drop l.other-index l.names)) l.name ≡ is_one_of (map word_view l.names) l.name
