-- The plan of an edit of a net, by its entry.
use Rattle.std.proofs.Common.{◌≡◌, ◌≤◌, ◌+◌, ℕ, true, false, List, length, Option, Some, None, Result, Ok, Err, refl, sym, ap, ◌∙◌, subst, arith}
use Rattle.form_meanings.specs.Words.{◌>>=◌}
use Rattle.form_meanings.proofs.Steps.{some_same}
use Rattle.statement_model.specs.Tokens.{Token}
use Rattle.edit_model.specs.declared.edit.EditCode.TheVariants.{Connection, UnknownName}
use Rattle.edit_model.specs.declared.edit.EditRefusal.{EditRefusal}
use Rattle.edit_model.specs.declared.edit.EditRefusal.TheVariants.{Refused}
use Rattle.edit_model.specs.declared.edit.Splice.{Splice}
use Rattle.def_grammar.specs.Records.{Entry, Record, entry_of, read_def}
use Rattle.def_grammar.specs.Located.{entry_at, located}
use Rattle.lef_grammar.specs.Library.{Library}
use Rattle.edit_rules.specs.Edits.{of_net, plan_of}
use Rattle.edit_rules.specs.NetEdits.{NetChange, before_terminal, connect_to, disconnect_from, front_of, lists, net_plan, plan_of_entry, plan_of_record, section_of_net, terminals_of}
use Rattle.edit_rules.specs.Plans.{Plan, lowest, refused_plan}
use Rattle.edit_laws.specs.EditLaws.{EditsStandInOrder}
use Rattle.edit_laws.specs.PlanLaws.{LieWithin}
use Rattle.lefdef_tokens.specs.Views.{pieces_of, words_of}
use Rattle.lefdef_tokens.specs.declared.token_run.TokenRun.{TokenRun}
use Rattle.def_splice.specs.Lying.{AreFirm, moved_plan, moved_tokens}
use Rattle.def_splice.specs.NetViews.{connect_refusals, entry_with, tokens_taken}
use Rattle.def_splice.specs.SpliceViews.{FollowsAll, MakesSplices}
use Rattle.def_splice.proofs.PlanLemmas.{makes, refused}
use Rattle.def_splice.proofs.TokenLemmas.{pieces_counted}

module _ (library : Library) (design : List Record) (change : NetChange) where
  of_record : (ps : List Token) (o : Option Entry) (x : List Token × Entry) → Some x ≡ (o >>= λ e. Some (ps, e)) → plan_of_record library design change ps o ≡ plan_of_entry library design change x.0 x.1
  of_record ps None x is = absurd (cc)
  of_record ps (Some e) x is =
      let here : List Token × Entry = (ps, e) in
      ap (λ (y : List Token × Entry). plan_of_entry library design change y.0 y.1) (sym (some_same x here is))

  pub planned : (found : Option (List Token × Record)) (x : List Token × Entry) → Some x ≡ entry_with found → net_plan library design change found ≡ plan_of_entry library design change x.0 x.1
  planned None x is = absurd (cc)
  planned (Some y) x is = of_record y.0 (entry_of y.1) x is

  abbrev with_it : List Token → Entry → Option (List Token × Entry)
  with_it ps e = Some (ps, e)

  none_of_record : (ps : List Token) (o : Option Entry) → None ≡ (o >>= λ e. with_it ps e) → plan_of_record library design change ps o ≡ refused_plan UnknownName
  none_of_record ps None is = refl
  none_of_record ps (Some e) is = absurd (cc)

  pub unplanned : (found : Option (List Token × Record)) → None ≡ entry_with found → net_plan library design change found ≡ refused_plan UnknownName
  unplanned None is = refl
  unplanned (Some y) is = none_of_record y.0 (entry_of y.1) is

-- a terminal that may be connected goes into its entry
pub connect_within : EditsStandInOrder → (library : Library) (text : List ℕ) (design : List Record) (name c p : List ℕ) (x : List Token × Entry) → read_def text ≡ Ok design
    → plan_of library text design (of_net name (connect_to c p)) ≡ plan_of_entry library design (connect_to c p) x.0 x.1
    → lowest (connect_refusals library design c p) ≡ None
    → front_of (terminals_of x.1) ≤ length x.0
connect_within order_so library text design name c p x reads is free =
    let plan = plan_of_entry library design (connect_to c p) x.0 x.1 in
    let all = (order_so library text design (of_net name (connect_to c p)) reads (ap (λ (q : Plan). lowest q.refusals) is ∙ free)).within in
    let here : LieWithin plan.changes = subst (λ (q : Plan). LieWithin q.changes) is all in
    let fits : front_of (terminals_of x.1) + 0 ≤ length x.0 = here.0 in
    omega (arith, fits)

-- why a terminal is not taken out
module _ (library : Library) (design : List Record) (c p : List ℕ) (ps : List Token) (e : Entry) where
  pub free_to_disconnect : lists c p e ≡ true → lowest (plan_of_entry library design (disconnect_from c p) ps e).refusals ≡ None
  free_to_disconnect is = rw is refl

  pub not_connected : lists c p e ≡ false → lowest (plan_of_entry library design (disconnect_from c p) ps e).refusals ≡ Some Connection
  not_connected isnt = rw isnt refl

-- the tokens that are taken are some of the entry's
pub firm_to_disconnect : (library : Library) (design : List Record) (c p : List ℕ) (run : TokenRun) (e : Entry) (before taken : ℕ) → before ≡ front_of (before_terminal c p (terminals_of e)) → taken ≡ tokens_taken c p (terminals_of e) → before + taken ≤ length (words_of run)
    → AreFirm (plan_of_entry library design (disconnect_from c p) (pieces_of run) e).changes
firm_to_disconnect library design c p run e before taken front own within =
    let many = pieces_counted run in
    (omega (arith, many, front, within), subst (λ (n : ℕ). n + tokens_taken c p (terminals_of e) ≤ length (pieces_of run)) front (subst (λ (n : ℕ). before + n ≤ length (pieces_of run)) own (omega (arith, many, within))), tt)

-- a terminal goes behind those of an entry that has tokens
pub firm_to_connect : (library : Library) (design : List Record) (c p : List ℕ) (run : TokenRun) (e : Entry) → front_of (terminals_of e) ≤ length (words_of run) → AreFirm (plan_of_entry library design (connect_to c p) (pieces_of run) e).changes
firm_to_connect library design c p run e within = let many = pieces_counted run in (omega (arith, many, within), omega (arith, many, within), tt)

-- the plan of a terminal's edit for tokens that are moved is the moved plan
pub terminal_moved : (library : Library) (design : List Record) (at : ℕ) (ps : List Token) (e : Entry) (c p : List ℕ)
    → (plan_of_entry library design (connect_to c p) (moved_tokens at ps) e ≡ moved_plan at (plan_of_entry library design (connect_to c p) ps e))
    × (plan_of_entry library design (disconnect_from c p) (moved_tokens at ps) e ≡ moved_plan at (plan_of_entry library design (disconnect_from c p) ps e))
terminal_moved library design at ps e c p = (refl, refl)

-- an edit of a net follows the plan of its entry
module _ (library : Library) (text name : List ℕ) (change : NetChange) (design : List Record) (reads : read_def text ≡ Ok design) where
  abbrev found : Option (List Token × Entry)
  found = entry_with (entry_at (section_of_net change name design) name (located text design))

  pub unknown_net : (A : Type 0) → None ≡ found → MakesSplices {A = A} library text (of_net name change) (Err (Refused UnknownName))
  unknown_net A none =
      let plan = refused_plan UnknownName in
      let is = unplanned library design change (entry_at (section_of_net change name design) name (located text design)) none in
      makes library text (of_net name change) design reads plan is {A = A} (Err (Refused UnknownName)) (refused text plan UnknownName refl)

  module _ (x : List Token × Entry) (is : Some x ≡ found) where
    pub net_planned : plan_of library text design (of_net name change) ≡ plan_of_entry library design change x.0 x.1
    net_planned = planned library design change (entry_at (section_of_net change name design) name (located text design)) x is

    pub net_makes : {A : Type 0} → (own : List ℕ) → own ≡ text → (r : Result (List (Splice A)) EditRefusal) → FollowsAll own (plan_of_entry library design change x.0 x.1) r → MakesSplices library text (of_net name change) r
    net_makes {A} own same r follows =
        let P : List ℕ → Type 0 = λ t. FollowsAll {A = A} t (plan_of_entry library design change x.0 x.1) r in
        makes library text (of_net name change) design reads (plan_of_entry library design change x.0 x.1) net_planned r (subst P same follows)
