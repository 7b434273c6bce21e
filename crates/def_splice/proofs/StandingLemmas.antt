-- The number in the header of a section stands before the section's END and an entry that is taken out.
use Rattle.std.proofs.Common.{◌≡◌, ◌-◌, suc, ℕ, List, Option, Some, length, refl, subst}
use Rattle.design_model.specs.declared.mode.Section.{Section}
use Rattle.statement_model.specs.Reading.{pos_of}
use Rattle.statement_model.specs.Tokens.{Token}
use Rattle.def_grammar.specs.Located.{located}
use Rattle.def_grammar.specs.Records.{Record}
use Rattle.edit_rules.specs.Plans.{Plan, StatementChange, cut_of}
use Rattle.edit_rules.specs.SectionEdits.{count_change, entries_in, is_end, is_header, put_change, take_change, taking, tokens_where, two_changes}
use Rattle.edit_laws.specs.PlanLaws.{StandInOrder}
use Rattle.def_splice.specs.LookupViews.{CountsBefore, MayPut, StandWithin}

-- what is said of a plan is said of its changes
pub of_plan : (text : List ℕ) (plan : Plan) → StandInOrder text plan → StandWithin text plan.changes
of_plan text plan stand = record { within = stand.within; ordered = stand.ordered }

-- both statements are found
both_found : (text : List ℕ) (first second : Option (List Token)) (a b : StatementChange) (hs ps : List Token) → first ≡ Some hs → second ≡ Some ps → StandWithin text (two_changes first a second b) → StandWithin text (two_changes (Some hs) a (Some ps) b)
both_found text first second a b hs ps one two stand =
    let P : Option (List Token) → Type 0 = λ o. StandWithin text (two_changes o a second b) in
    let Q : Option (List Token) → Type 0 = λ o. StandWithin text (two_changes (Some hs) a o b) in
    subst Q two (subst P one stand)

module _ (text : List ℕ) (design : List Record) (s : Section) (hs : List Token) (head : tokens_where (is_header s) (located text design) ≡ Some hs) where
  pub before_end : (put : List ℕ) (es : List Token) → tokens_where (is_end s) (located text design) ≡ Some es → MayPut text design s put → CountsBefore (pos_of es) hs
  before_end put es end may =
      let count = count_change s (suc (length (entries_in s design))) in
      let stand = both_found text (tokens_where (is_header s) (located text design)) (tokens_where (is_end s) (located text design)) count (put_change s put may.0) hs es head end may.1 in
      (stand.within.0, stand.ordered.2.0)

  pub before_taken : (ps : List Token) → StandWithin text (taking s ps (located text design) design) → CountsBefore (cut_of text ps (take_change ps)).lo hs
  before_taken ps stands =
      let count = count_change s (length (entries_in s design) - 1) in
      let stand = both_found text (tokens_where (is_header s) (located text design)) (Some ps) count (take_change ps) hs ps head refl stands in
      (stand.within.0, stand.ordered.2.0)
