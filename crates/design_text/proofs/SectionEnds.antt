-- A section is closed once where it is opened once.
use Rattle.std.proofs.Common.{◌≡◌, ◌≤◌, ◌+◌, ℕ, Bool, cond, List, [], ◌∷◌, ◌++◌, Result, Ok, Err, refl, sym, ap, subst, inl, inr, arith}
use Rattle.std.specs.Prelude.{count_by}
use Rattle.std.proofs.lemmas.Bool.{cases_Bool}
use Rattle.design_model.specs.declared.fault.Fault.{Fault}
use Rattle.design_model.specs.declared.mode.Mode.{Mode}
use Rattle.design_model.specs.declared.mode.Mode.TheVariants.{Top, In, Props, After}
use Rattle.design_model.specs.declared.mode.Section.{Section}
use Rattle.statement_model.specs.Boundaries.{is_whole}
use Rattle.statement_model.specs.Reading.{read_form}
use Rattle.statement_model.specs.Tokens.{Token, tokens}
use Rattle.statement_reader.specs.Located.{in_front, located_on}
use Rattle.def_grammar.specs.Properties.{end_properties}
use Rattle.def_grammar.specs.Records.{Record, def, end_section, entry, in_properties, mode_after, top}
use Rattle.def_grammar.specs.Top.{end_design, header, properties, units}
use Rattle.edit_rules.specs.SectionEdits.{is_end, is_header, is_section}
use Rattle.edit_laws.proofs.SectionModes.{MayStand, Walk, is_in, statement_is}
use Rattle.def_splice.proofs.SearchSteps.{said}
use Rattle.text_pieces.specs.Statements.{statements_of}
use Rattle.design_text.proofs.FoundStatements.{count_more}

abbrev Located : Type 0
Located = List (List Token × Record)

-- statements that are read one after the other may stand so
front_walk : (m : Mode) (s : List Token) (r : Result (Record × Mode) Fault) (later : Mode → Located) → read_form def m s ≡ r → ((k : Mode) → (last : Mode) × Walk k (later k) last) → (last : Mode) × Walk m (in_front def s r later) last
front_walk m s (Ok x) later form walks =
    let st = statement_is m s x.0 x.1 form in
    let w = walks x.1 in
    (w.0, (st.may, subst (λ (k : Mode). Walk k (later x.1) w.0) (sym st.next) w.1))
front_walk m s (Err f) later form walks = (m, refl)

walk : (ps before : List Token) (m : Mode) → (last : Mode) × Walk m (located_on def m before ps) last
unfolding located_on
walk [] before m = (m, refl)
walk (p ∷ ps) before m = elim (cases_Bool (is_whole (def.ending m) (before ++ p ∷ []))) [
  | inl whole ↦ rw whole (front_walk m (before ++ p ∷ []) (read_form def m (before ++ p ∷ [])) (λ after. located_on def after [] ps) refl (walk ps []))
  | inr more ↦ rw more (walk ps (before ++ p ∷ []) m)
]

module _ (s : Section) where
  abbrev one_if : Bool → ℕ
  one_if b = cond b 1 0

  step : (m : Mode) (r : Record) → MayStand m r → one_if (is_end s r) + one_if (is_in s (mode_after m r)) ≤ one_if (is_header s r) + one_if (is_in s m)
  step Top (top (header t n)) may = omega arith
  step Top (top (units n)) may = omega arith
  step Top (top end_design) may = omega arith
  step Top (top properties) may = omega arith
  step Top (inl (inr (inr (inr (inr t))))) may = omega arith
  step Top (in_properties p) may = absurd may
  step Top (end_section t) may = absurd may
  step Top (entry e) may = absurd may
  step (In t) (top u) may = absurd may
  step (In t) (in_properties p) may = absurd may
  step (In t) (end_section u) may = let e = ap (λ (v : Section). one_if (is_section s v)) may in omega (arith, e)
  step (In t) (entry e) may = omega arith
  step Props (top t) may = absurd may
  step Props (in_properties end_properties) may = omega arith
  step Props (inr (inl (inr p))) may = omega arith
  step Props (end_section t) may = absurd may
  step Props (entry e) may = absurd may
  step After r may = absurd may

  ends_few : (m last : Mode) (xs : Located) → Walk m xs last → count_by (is_end s) (said xs) ≤ count_by (is_header s) (said xs) + one_if (is_in s m)
  ends_few m last [] walks = omega arith
  ends_few m last (x ∷ xs) walks =
      let later = ends_few (mode_after m x.1) last xs walks.1 in
      omega (arith, later, step m x.1 walks.0, count_more (is_end s) x.1 (said xs), count_more (is_header s) x.1 (said xs))

  pub ends_once : (text : List ℕ) (rs : List Record) → said (statements_of text) ≡ rs → count_by (is_header s) rs ≤ 1 → count_by (is_end s) rs ≤ 1
  ends_once text rs is once =
      let w = walk (tokens text).pieces [] Top in
      let few = ends_few Top w.0 (statements_of text) w.1 in
      let heads = ap (count_by (is_header s)) is in
      let ends = ap (count_by (is_end s)) is in
      omega (arith, few, heads, ends, once)
