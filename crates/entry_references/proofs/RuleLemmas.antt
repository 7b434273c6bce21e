-- The layers of a rule that are listed so far, and those of the clauses that are left.
use Rattle.std.proofs.Common.{if◌then◌else◌, ◌≡◌, ◌≤◌, ◌+◌, ℕ, Bool, true, false, List, [], ◌∷◌, ◌++◌, map, length, drop, refl, sym, ap, ◌∙◌, append_assoc, length-append, arith}
use Rattle.std.proofs.lemmas.List.{append-nil, length-map, drop-map, map-append}
use Rattle.std.proofs.Math.Seq.{drop-append_seam}
use Rattle.std.specs.List.{filter_map, list_any}
use Rattle.def_grammar.specs.Clauses.{KeptClause}
use Rattle.form_meanings.specs.Firsts.{has_name, with_all}
use Rattle.def_grammar.specs.Rules.{RuleClause, RuleLayer, rule_has_layer, rule_kept, layer_of_rule}
use Rattle.entry_rules.specs.References.{Reference, to_layer}
use Rattle.entry_references.specs.declared.reference.Reference as code
use Rattle.entry_references.specs.ReferenceViews.{is_to_layer, reference_view, references_view}

abbrev layer_name : RuleLayer → List ℕ
layer_name l = l.layer

abbrev to_layer_of : RuleLayer → Reference
to_layer_of l = to_layer l.layer

-- some layers were listed after those that stood in the list before, and clauses are left
pub record Listed (before now : List code.Reference) (left all : List RuleClause) : Type 0 where
  pub kept : List RuleLayer
  pub listed : references_view now ≡ references_view before ++ map to_layer_of kept
  pub same : with_all layer_name kept (filter_map layer_of_rule left) ≡ with_all layer_name [] (filter_map layer_of_rule all)

same_test : (name : List ℕ) (kept : List RuleLayer) → list_any (is_to_layer name) (map to_layer_of kept) ≡ list_any (has_name layer_name name) kept
same_test name [] = refl
same_test name (l ∷ ls) = rw (same_test name ls) refl

pub listed_none : (before : List code.Reference) (all : List RuleClause) → Listed before before all all
listed_none before all = record { kept = []; listed = sym (append-nil (references_view before)); same = refl }

module _ (before now : List code.Reference) (left all : List RuleClause) (p : Listed before now left all) where
  -- what stands in the list after those before
  after_before : references_view (drop (length before) now) ≡ map to_layer_of p.kept
  after_before =
      sym (drop-map reference_view (length before) now)
      ∙ ap (λ (z : List Reference). drop (length before) z) p.listed
      ∙ rw (sym (length-map before reference_view)) (drop-append_seam (references_view before) (map to_layer_of p.kept))

  pub no_fewer : length before ≤ length now
  no_fewer =
      let e : length now ≡ length before + length p.kept =
      sym (length-map now reference_view) ∙ ap (λ (z : List Reference). length z) p.listed ∙ length-append (references_view before) (map to_layer_of p.kept) ∙ rw (length-map before reference_view, length-map p.kept to_layer_of) refl in
      rw e (omega arith)

  with_left : (others : List RuleClause) → left ≡ others → with_all layer_name p.kept (filter_map layer_of_rule others) ≡ with_all layer_name [] (filter_map layer_of_rule all)
  with_left others is = ap (λ (z : List RuleClause). with_all layer_name p.kept (filter_map layer_of_rule z)) (sym is) ∙ p.same

  pub all_listed : left ≡ [] → references_view now ≡ references_view before ++ map to_layer_of (with_all layer_name [] (filter_map layer_of_rule all))
  unfolding with_all
  all_listed is = p.listed ∙ ap (λ (z : List RuleLayer). references_view before ++ map to_layer_of z) (with_left [] is)

  module _ (later : List RuleClause) where
    -- a clause without meaning
    pub passed_over : (k : KeptClause) → left ≡ rule_kept k ∷ later → Listed before now later all
    passed_over k is = record { kept = p.kept; listed = p.listed; same = with_left (rule_kept k ∷ later) is }

    module _ (l : RuleLayer) (is : left ≡ rule_has_layer l ∷ later) where
      was_listed : list_any (is_to_layer l.layer) (references_view (drop (length before) now)) ≡ list_any (has_name layer_name l.layer) p.kept
      was_listed = ap (λ (z : List Reference). list_any (is_to_layer l.layer) z) after_before ∙ same_test l.layer p.kept

      after_test : (b : Bool) → list_any (is_to_layer l.layer) (references_view (drop (length before) now)) ≡ b
          → with_all layer_name (if b then p.kept else p.kept ++ l ∷ []) (filter_map layer_of_rule later) ≡ with_all layer_name [] (filter_map layer_of_rule all)
      unfolding with_all
      after_test b e =
          ap (λ (z : Bool). with_all layer_name (if z then p.kept else p.kept ++ l ∷ []) (filter_map layer_of_rule later)) (sym e ∙ was_listed)
          ∙ with_left (rule_has_layer l ∷ later) is

      pub listed_already : list_any (is_to_layer l.layer) (references_view (drop (length before) now)) ≡ true → Listed before now later all
      listed_already e = record { kept = p.kept; listed = p.listed; same = after_test true e }

      pub listed_now : (after : List code.Reference) → references_view after ≡ references_view now ++ to_layer l.layer ∷ []
          → list_any (is_to_layer l.layer) (references_view (drop (length before) now)) ≡ false → Listed before after later all
      listed_now after pushed e = record {
        kept = p.kept ++ l ∷ [];
        listed =
            pushed
            ∙ ap (λ (z : List Reference). z ++ to_layer l.layer ∷ []) p.listed
            ∙ append_assoc (references_view before) (map to_layer_of p.kept) (to_layer l.layer ∷ [])
            ∙ ap (λ (z : List Reference). references_view before ++ z) (sym (map-append to_layer_of p.kept (l ∷ [])));
        same = after_test false e;
      }
