-- The rectangles where routing is blocked, after exchanges of statements.
use Rattle.std.proofs.Common.{◌≡◌, ◌∙◌, ◌≤◌, ◌+◌, ℕ, List, [], ◌∷◌, ◌++◌, drop, length, map, slice_get, Option, Some, refl, sym, ap, arith, subst, sum_by}
use Rattle.std.specs.Prelude.{flat_map}
use Rattle.std.proofs.lemmas.List.{append-nil, drop_all, map-append}
use Rattle.std.proofs.lemmas.List.Sums.{sum_by-append}
use Rattle.design_model.specs.declared.identifier.StmtId.{StmtId}
use Rattle.def_grammar.specs.Records.{Record}
use Rattle.lef_grammar.specs.Library.{Library}
use Rattle.connection_rules.specs.NetLines.{Barrier}
use Rattle.following_laws.specs.Following.{Exchange}
use Rattle.net_laws.specs.Blocked.{BarsAreExchanged, BarsChange, bars_in}
use Rattle.text_pieces.specs.KeptRecords.{record_of, records_under}
use Rattle.text_pieces.specs.Tables.{Kept, kept_at}
use Rattle.design_text.specs.Exchanges.{AreExchanges, Exchanged, IsExchange}
use Rattle.followed_nets.specs.Blocked.{bars_come, bars_gone, bars_under}
use Rattle.followed_nets.specs.Noted.{said}

module _ (slots : List (Option Kept)) where
  abbrev kept : List StmtId → List Record
  kept ids = map (λ id. record_of (kept_at slots id)) ids

  said_kept : (ids : List StmtId) → said (records_under slots ids) ≡ kept ids
  said_kept [] = refl
  said_kept (i ∷ ids) = ap (λ (l : List Record). record_of (kept_at slots i) ∷ l) (said_kept ids)

  parted : (front some rest : List StmtId) → said (records_under slots (front ++ (some ++ rest))) ≡ kept front ++ (kept some ++ kept rest)
  parted front some rest =
      said_kept (front ++ (some ++ rest))
      ∙ map-append (λ (id : StmtId). record_of (kept_at slots id)) front (some ++ rest)
      ∙ ap (λ (l : List Record). kept front ++ l) (map-append (λ (id : StmtId). record_of (kept_at slots id)) some rest)

  module _ (library : Library) (law : BarsAreExchanged) where
    abbrev bars : List (StmtId × Record) → List Barrier
    bars rs = bars_in library (said rs)

    one_change : (old new : List (StmtId × Record)) (x : Exchanged) → IsExchange slots old new x → (w : Barrier → ℕ)
        → sum_by w (bars old) + sum_by w (bars_under library slots x.came) ≡ sum_by w (bars new) + sum_by w (bars_under library slots x.went)
    one_change old new x e w =
        let law_says = law library (kept e.front) (kept x.went) (kept x.came) (kept e.rest) in
        let stay = bars_in library (kept e.front ++ kept e.rest) in
        let was : sum_by w (bars old) ≡ sum_by w (bars_in library (kept e.front ++ (kept x.went ++ kept e.rest))) = ap (λ (rs : List Record). sum_by w (bars_in library rs)) (ap said e.old_is ∙ parted e.front x.went e.rest) in
        let is : sum_by w (bars new) ≡ sum_by w (bars_in library (kept e.front ++ (kept x.came ++ kept e.rest))) = ap (λ (rs : List Record). sum_by w (bars_in library rs)) (ap said e.new_is ∙ parted e.front x.came e.rest) in
        let goes = law_says.old_is.sums w in
        let comes = law_says.new_is.sums w in
        omega (arith, was, is, goes, comes, sum_by-append w (bars_under library slots x.went) stay, sum_by-append w (bars_under library slots x.came) stay)

    changes : (old new : List (StmtId × Record)) (xs : List Exchanged) → AreExchanges slots old xs new → (w : Barrier → ℕ)
        → sum_by w (bars old) + sum_by w (bars_come library slots xs) ≡ sum_by w (bars new) + sum_by w (bars_gone library slots xs)
    changes old new [] same w = ap (λ (rs : List (StmtId × Record)). sum_by w (bars rs) + 0) (sym same)
    changes old new (x ∷ xs) made w =
        let one = one_change old made.0 x made.1 w in
        let later = changes made.0 new xs made.2 w in
        omega (
          arith,
          one,
          later,
          sum_by-append w (bars_under library slots x.came) (bars_come library slots xs),
          sum_by-append w (bars_under library slots x.went) (bars_gone library slots xs),
        )

    pub bars_change : (old new : List (StmtId × Record)) (xs : List Exchanged) → AreExchanges slots old xs new → BarsChange (bars_in library (said old)) (bars_in library (said new)) (bars_gone library slots xs) (bars_come library slots xs)
    bars_change old new xs made = record {
      same = record {
        sums = λ w.
            let all = changes old new xs made w in
            omega (arith, all, sum_by-append w (bars old) (bars_come library slots xs), sum_by-append w (bars new) (bars_gone library slots xs));
      };
    }
