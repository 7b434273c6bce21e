-- Lines on statements where a design shows the same as another but for a component that some entries list.
use Rattle.std.proofs.Common.{◌≡◌, ◌+◌, ℕ, Bool, true, false, not, List, [], ◌∷◌, ◌++◌, filter, flat_map, refl, sym, ap, ◌∙◌, append-nil, arith, if◌then◌else◌}
use Rattle.std.specs.Prelude.{Option, Some, None}
use Rattle.def_grammar.specs.Records.{Record}
use Rattle.lef_grammar.specs.Library.{Library}
use Rattle.agreement_laws.specs.Laws.{LinesFollowOneName, SameShownSameLines}
use Rattle.agreement_laws.proofs.FollowLemmas.{same_all}
use Rattle.design_rules.specs.CountLines.{count_lines}
use Rattle.entry_rules.specs.Unchecked.{unchecked_in_library}
use Rattle.report_rules.specs.Diagnostics.{statement_lines}
use Rattle.line_laws.specs.Lines.{SameLines, times}
use Rattle.line_laws.proofs.PairSums.{times-append, times-flat_map}
use Rattle.following_laws.specs.Following.{LinesFollow}
use Rattle.staying_laws.specs.Staying.{lines_on_statements}
use Rattle.design_tables.specs.Lookups.{is_of, lists}
use Rattle.design_text.specs.Listings.{ListsOnce}
use Rattle.followed_statements.specs.Following.{lines_by}
use Rattle.followed_statements.specs.Seen.{IsNoPinName, ShowAllBut, listing, listing_one, seen_but}
use Rattle.followed_statements.specs.Telling.{AreToldLines}
use Rattle.followed_statements.proofs.ReferenceLemmas.{unlisted}

-- the entries that list a component in any order, each once, behind other lines
pub listed_lines : (library : Library) (design found : List Record) (component : List ℕ) (old new : List (List ℕ)) → ListsOnce component design found
    → new ≡ old ++ flat_map (statement_lines library design) found → SameLines new (old ++ flat_map (statement_lines library design) (listing component design))
listed_lines library design found component old new once is = record {
  often = λ q.
      let f = statement_lines library design in
      let all = once (λ r. times q (f r)) in
      let now = ap (times q) is ∙ times-append q old (flat_map f found) in
      let then_ = times-append q old (flat_map f (listing component design)) in
      omega (arith, all, now, then_, times-flat_map q f found, times-flat_map q f (listing component design));
}

-- no lines are told but those on headers
pub no_listing : (library : Library) (design : List Record) (lines counts : List (List ℕ)) → SameLines lines counts → SameLines lines (counts ++ flat_map (statement_lines library design) [])
no_listing library design lines counts same = record { often = λ q. same.often q ∙ ap (times q) (sym (append-nil counts)) }

-- lines on headers in front of others
pub behind_headers : (lines headers counts more : List (List ℕ)) → SameLines headers counts → SameLines lines (headers ++ more) → SameLines lines (counts ++ more)
behind_headers lines headers counts more first all = record {
  often = λ q.
      let a = all.often q in
      let b = first.often q in
      omega (arith, a, b, times-append q headers more, times-append q counts more);
}

-- lines on things are those on the things that pass a test, and on the others
module _ (q : List ℕ) (f : Record → List (List ℕ)) (p : Record → Bool) where
  parted_step : (r : Record) (b : Bool) (rs some others : List Record) → times q (flat_map f rs) ≡ times q (flat_map f some) + times q (flat_map f others)
      → times q (f r ++ flat_map f rs) ≡ times q (flat_map f (if b then r ∷ some else some)) + times q (flat_map f (if not b then r ∷ others else others))
  parted_step r true rs some others later =
      omega (arith, later, times-append q (f r) (flat_map f rs), times-append q (f r) (flat_map f some))
  parted_step r false rs some others later =
      omega (arith, later, times-append q (f r) (flat_map f rs), times-append q (f r) (flat_map f others))

  parted : (rs : List Record) → times q (flat_map f rs) ≡ times q (flat_map f (filter p rs)) + times q (flat_map f (filter (λ r. not (p r)) rs))
  parted [] = refl
  parted (r ∷ rs) = parted_step r (p r) rs (filter p rs) (filter (λ x. not (p x)) rs) (parted rs)

with_none : (n : ℕ) → n ≡ 0 + n
with_none n = omega arith

-- the statements that don't list the component
abbrev others : Option (List ℕ) → List Record → List Record
others None rs = rs
others (Some c) rs = filter (λ r. not (lists (is_of c) r)) rs

module _ (q : List ℕ) (f : Record → List (List ℕ)) where
  pub all_parted : (c : Option (List ℕ)) (rs : List Record) → times q (flat_map f rs) ≡ times q (flat_map f (listing_one c rs)) + times q (flat_map f (others c rs))
  all_parted None rs = with_none (times q (flat_map f rs))
  all_parted (Some c) rs = parted q f (lists (is_of c)) rs

module _ (lines : SameShownSameLines) (one : LinesFollowOneName) (library : Library) (old new : List Record) where
  abbrev before : Record → List (List ℕ)
  before = statement_lines library old

  abbrev after : Record → List (List ℕ)
  after = statement_lines library new

  -- the lines by the two designs differ on those that list the component
  differ_there : (c : Option (List ℕ)) → seen_but c old ≡ seen_but c new → IsNoPinName c → (q : List ℕ)
      → times q (flat_map after old) + times q (flat_map before (listing_one c old)) ≡ times q (flat_map before old) + times q (flat_map after (listing_one c old))
  differ_there None same no_pin q = ap (λ (l : List (List ℕ)). times q l + 0) (sym (same_all before after (λ r. lines library old new r same) old))
  differ_there (Some c) same no_pin q =
      let follow = (one library old new c (lists (is_of c)) old same (unlisted c no_pin)).often q in
      omega (arith, follow, times-append q (flat_map after old) (flat_map before (listing c old)), times-append q (flat_map before old) (flat_map after (listing c old)))

  pub told_follow : (c : Option (List ℕ)) (out put : List (List ℕ)) → ShowAllBut c old new → AreToldLines library old c out → AreToldLines library new c put
      → LinesFollow (lines_on_statements library old) (lines_by library new old) out put
  told_follow c out put shows went came = record {
    stay = flat_map before (others c old) ++ unchecked_in_library library;
    old_is = record {
      often = λ q.
          let rest = unchecked_in_library library in
          let told = went.lines.often q in
          omega (
            arith,
            told,
            all_parted q before c old,
            times-append q (count_lines old) (flat_map before old ++ rest),
            times-append q (flat_map before old) rest,
            times-append q (count_lines old) (flat_map before (listing_one c old)),
            times-append q out (flat_map before (others c old) ++ rest),
            times-append q (flat_map before (others c old)) rest,
          );
    };
    new_is = record {
      often = λ q.
          let rest = unchecked_in_library library in
          let told = came.lines.often q in
          let listed = ap (λ (rs : List Record). times q (flat_map after rs)) shows.listing in
          omega (
            arith,
            told,
            listed,
            all_parted q before c old,
            differ_there c shows.seen came.no_pin q,
            times-append q (count_lines new) (flat_map after old ++ rest),
            times-append q (flat_map after old) rest,
            times-append q (count_lines new) (flat_map after (listing_one c new)),
            times-append q put (flat_map before (others c old) ++ rest),
            times-append q (flat_map before (others c old)) rest,
          );
    };
  }
