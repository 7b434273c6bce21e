-- Lines by a design on statements that are exchanged.
use Rattle.std.proofs.Common.{◌≡◌, ℕ, List, [], ◌++◌, flat_map, sym, ap, ap₂, ◌∙◌, append-nil, subst}
use Rattle.design_model.specs.Order.{sorted_by_bytes}
use Rattle.def_grammar.specs.Records.{Record}
use Rattle.lef_grammar.specs.Library.{Library}
use Rattle.agreement_laws.specs.Laws.{SameOutlineSameCounts, SameShownSameLines}
use Rattle.agreement_laws.proofs.FollowLemmas.{same_all}
use Rattle.design_rules.specs.CountLines.{count_lines}
use Rattle.entry_rules.specs.Unchecked.{unchecked_in_library}
use Rattle.report_rules.specs.Diagnostics.{statement_lines}
use Rattle.following_laws.specs.Following.{Exchange, LinesFollow}
use Rattle.following_laws.proofs.FamilyLemmas.{each_follows, lines_that_stay, parts_follow}
use Rattle.kept_lines.specs.Kept.{Kept}
use Rattle.staying_laws.specs.Staying.{lines_on_statements}
use Rattle.followed_statements.specs.Following.{AreKeptBy, AreOnStatements, ShowSame, lines_by}

-- three families of one statement
pub three_families : (old a b d : List (List ℕ)) → old ++ (a ++ (b ++ d)) ≡ old ++ (a ++ (b ++ (d ++ [])))
three_families old a b d = ap (λ (l : List (List ℕ)). old ++ (a ++ (b ++ l))) (sym (append-nil d))

-- lines by a design follow an exchange of statements by those on each of them
pub by_follow : (library : Library) (design old new out put stay : List Record) → Exchange old new out put stay
    → LinesFollow (lines_by library design old) (lines_by library design new) (flat_map (statement_lines library design) out) (flat_map (statement_lines library design) put)
by_follow library design old new out put stay e =
    let f = statement_lines library design in
    let counts = count_lines design in
    let rest = unchecked_in_library library in
    let each = each_follows Record f old new out put stay e in
    let with_rest = parts_follow (flat_map f old) (flat_map f new) (flat_map f out) (flat_map f put) rest rest [] [] each (lines_that_stay rest) in
    let all = parts_follow counts counts [] [] (flat_map f old ++ rest) (flat_map f new ++ rest) (flat_map f out ++ []) (flat_map f put ++ []) (lines_that_stay counts) with_rest in
    subst (λ (l : List (List ℕ)). LinesFollow (lines_by library design old) (lines_by library design new) (flat_map f out) l) (append-nil (flat_map f put))
    (subst (λ (l : List (List ℕ)). LinesFollow (lines_by library design old) (lines_by library design new) l (flat_map f put ++ [])) (append-nil (flat_map f out)) all)

-- where a design shows the same as another, its lines are those by the other
pub by_other : SameOutlineSameCounts → SameShownSameLines → (library : Library) (old new : List Record) → ShowSame old new → lines_on_statements library old ≡ lines_by library new old
by_other counts lines library old new same =
    ap₂ (λ (a b : List (List ℕ)). a ++ (b ++ unchecked_in_library library)) (counts old new same.outline)
    (same_all (statement_lines library old) (statement_lines library new) (λ r. lines library old new r same.shown) old)

pub kept_by_other : SameOutlineSameCounts → SameShownSameLines → (library : Library) (old new : List Record) (k : Kept) → ShowSame old new → AreOnStatements library old k → AreKeptBy library new old k
kept_by_other counts lines library old new k same are = are ∙ ap sorted_by_bytes (by_other counts lines library old new same)
