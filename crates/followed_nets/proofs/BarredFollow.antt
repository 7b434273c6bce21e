-- The lines that are kept follow rectangles where routing is blocked that come and go.
use Rattle.std.proofs.Common.{◌≡◌, ◌∙◌, ◌≤◌, ◌+◌, ℕ, List, [], ◌∷◌, ◌++◌, map, sum_by, refl, sym, ap, arith}
use Rattle.std.specs.Prelude.{flat_map}
use Rattle.std.proofs.lemmas.List.{append-nil}
use Rattle.std.proofs.lemmas.List.Sums.{sum_by-append}
use Rattle.design_model.specs.Families.{cross_lines}
use Rattle.design_model.specs.Order.{sorted_by_bytes}
use Rattle.design_model.specs.declared.identifier.StmtId.{StmtId}
use Rattle.def_grammar.specs.Records.{Record}
use Rattle.lef_grammar.specs.Library.{Library}
use Rattle.connection_rules.specs.NetLines.{Barrier, layer_name, routeblock_of, shapes_of_net}
use Rattle.connection_rules.specs.NetParts.{Net, all_nets}
use Rattle.design_rules.specs.Boxes.{scale}
use Rattle.following_laws.specs.DesignLaws.{lines_on_nets}
use Rattle.following_laws.specs.Following.{Exchange, LinesFollow}
use Rattle.following_laws.proofs.FamilyLemmas.{same_lines_follow}
use Rattle.kept_lines.specs.Kept.{Kept}
use Rattle.line_laws.specs.Lines.{SameLines, SameThings, times}
use Rattle.line_laws.specs.SortingLaws.{SameLinesSortAlike}
use Rattle.net_laws.specs.Blocked.{BarredLinesFollow, BarsChange}
use Rattle.followed_nets.specs.FollowedNets.{HasNetsBarred, Nets}
use Rattle.followed_nets.specs.Noted.{said}
use Rattle.followed_nets.specs.Touched.{AreBarred}
use Rattle.followed_nets.proofs.BarredNets.{same_barred}
use Rattle.followed_nets.proofs.ShortLines.{no_crosses}

turned_lines : {xs ys : List (List ℕ)} → SameLines xs ys → SameLines ys xs
turned_lines same = record { often = λ q. sym (same.often q) }

module _ (law : BarredLinesFollow) (name_of : ℕ → List ℕ) (nets : List Net) (old new gone come : List Barrier) (change : BarsChange old new gone come) where
  abbrev walls : List Barrier → List (List ℕ)
  walls bars = cross_lines (routeblock_of name_of) (flat_map shapes_of_net nets) bars

  abbrev pub with_bars : List Barrier → List (List ℕ)
  with_bars bars = lines_on_nets name_of nets bars

  no_walls : SameLines (walls []) []
  no_walls = record { often = λ q. ap (times q) (no_crosses (routeblock_of name_of) (flat_map shapes_of_net nets)) }

  same : (lines : List (List ℕ)) → SameLines lines lines
  same lines = record { often = λ q. refl }

  -- first those that came,
  pub come_in : (put : List (List ℕ)) → SameLines put (walls come) → LinesFollow (with_bars old) (with_bars (old ++ come)) [] put
  come_in put are =
      let e : Exchange old (old ++ come) [] come old = record { old_is = record { sums = λ w. refl }; new_is = record { sums = λ w. omega (arith, sum_by-append w old come, sum_by-append w come old) } } in
      same_lines_follow _ _ _ _ _ _ _ _ (same (with_bars old)) (same (with_bars (old ++ come))) no_walls (turned_lines are) (law name_of nets old (old ++ come) [] come old e)

  -- then those that went
  pub go_out : (out : List (List ℕ)) → SameLines out (walls gone) → LinesFollow (with_bars (old ++ come)) (with_bars new) out []
  go_out out are =
      let e : Exchange (old ++ come) new gone [] new =
      record { old_is = record { sums = λ w. let h = change.same.sums w in omega (arith, h, sum_by-append w new gone, sum_by-append w gone new) }; new_is = record { sums = λ w. refl } } in
      same_lines_follow _ _ _ _ _ _ _ _ (same (with_bars (old ++ come))) (same (with_bars new)) (turned_lines are) no_walls (law name_of nets (old ++ come) new gone [] new e)

-- the rectangles that are kept follow, too
pub bars_then : (old new gone come kept then : List Barrier) → BarsChange old new gone come → SameThings kept old → SameThings (kept ++ come) (gone ++ then) → SameThings then new
bars_then old new gone come kept then change had made = record {
  sums = λ w.
      let a = change.same.sums w in
      let b = had.sums w in
      let c = made.sums w in
      omega (arith, a, b, c, sum_by-append w old come, sum_by-append w new gone, sum_by-append w kept come, sum_by-append w gone then);
}

-- where none went and none came
pub none_changed : (old new gone come : List Barrier) → gone ≡ [] → come ≡ [] → BarsChange old new gone come → SameThings old new
none_changed old new gone come none_gone none_come change = record {
  sums = λ w.
      ap (sum_by w) (sym (append-nil old) ∙ ap (λ (bs : List Barrier). old ++ bs) (sym none_come))
      ∙ change.same.sums w
      ∙ ap (sum_by w) (ap (λ (bs : List Barrier). new ++ bs) none_gone ∙ append-nil new);
}

pub same_bars : SameLinesSortAlike → (library : Library) (records : List (StmtId × Record)) (old new : List Barrier) (n : Nets) (kept : Kept) → SameThings old new → AreBarred library records old n kept → AreBarred library records new n kept
same_bars sorted library records old new n kept same are = record {
  nets = record {
    shapes_are = are.nets.shapes_are;
    common_are = are.nets.common_are;
    bars_are = record { sums = λ w. are.nets.bars_are.sums w ∙ same.sums w };
    stars_are = are.nets.stars_are;
    heads_are = are.nets.heads_are;
  };
  lines =
      are.lines
      ∙ sorted (lines_on_nets (layer_name library.layers) (all_nets library (said records) (scale (said records))) old) (lines_on_nets (layer_name library.layers) (all_nets library (said records) (scale (said records))) new)
      (same_barred (layer_name library.layers) (all_nets library (said records) (scale (said records))) old new same);
}
