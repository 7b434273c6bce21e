-- The plans of routing a net and of unrouting it, by what its clauses are to wiring.
use Rattle.std.proofs.Common.{◌≡◌, ◌≤◌, ◌<◌, ℕ, ◌+◌, ◌-◌, ◌==◌, Bool, true, false, not, List, [], ◌∷◌, ◌++◌, length, map, drop, Option, Some, None, Result, Ok, Err, if◌then◌else◌, arith, refl, sym, ap, ap₂, subst, ◌∙◌, length-drop}
use Rattle.std.proofs.lemmas.List.{length-map}
use Rattle.design_model.specs.declared.fault.Fault.{Fault}
use Rattle.edit_model.specs.declared.edit.EditCode.{EditCode}
use Rattle.edit_model.specs.declared.edit.EditCode.TheVariants.{UnknownName, Fixed, WiringText, WiringApart, TooLong}
use Rattle.edit_model.specs.declared.edit.EditRefusal.{EditRefusal}
use Rattle.edit_model.specs.declared.edit.EditRefusal.TheVariants.{Refused, Unreadable, Memory}
use Rattle.edit_model.specs.declared.edit.Splice.{Splice}
use Rattle.form_meanings.specs.Meaning.{spell_all}
use Rattle.statement_model.specs.Cuts.{Cut, with_cuts}
use Rattle.statement_model.specs.Form.{Form, spell}
use Rattle.statement_model.specs.Tokens.{Token, between, tokens}
use Rattle.def_grammar.specs.Located.{entry_at, located}
use Rattle.def_grammar.specs.Nets.{is_net, net_clause}
use Rattle.def_grammar.specs.Parts.{is_some}
use Rattle.def_grammar.specs.Records.{Entry, Record, entry, entry_of, net, read_def, special_net}
use Rattle.def_grammar.specs.SpecialNets.{special_clause}
use Rattle.def_grammar.specs.Terminals.{Terminal, terminal}
use Rattle.edit_rules.specs.Edits.{of_net, plan_of}
use Rattle.edit_rules.specs.NetEdits.{Role, before_wiring, is_held, is_wiring, NetChange, edited_net, front_of, net_plan, net_role, opens_comment, plan_of_entry, plan_of_record, route_by, route_change, route_plan, said_by, section_of_net, special_role, terminals_of, unroute_all, unroute_change, unroute_plan, wiring_of, wiring_said}
use Rattle.edit_rules.specs.NetEdits as rules
use Rattle.edit_rules.specs.Plans.{Plan, StatementChange, cut_of, cuts_for, is_long, lowest, outcome_of, refused_plan, unless}
use Rattle.edit_rules.specs.Runs.{MayWantMemory}
use Rattle.edit_laws.specs.EditLaws.{EditsStandInOrder}
use Rattle.edit_laws.specs.PlanLaws.{LieWithin}
use Rattle.lef_grammar.specs.Library.{Library}
use Rattle.lefdef_tokens.specs.Places.{behind, past}
use Rattle.lefdef_tokens.specs.Views.{pieces_of, words_of}
use Rattle.lefdef_tokens.specs.declared.token_run.TokenRun.{TokenRun}
use Rattle.lefdef_tokens.proofs.PlaceLemmas.{behind_is_drop}
use Rattle.design_model.specs.declared.mode.Section.{Section}
use Rattle.form_meanings.specs.Words.{◌>>=◌}
use Rattle.form_meanings.proofs.Steps.{some_same}
use Rattle.lefdef_tokens.specs.Laws.{moved_token}
use Rattle.def_splice.specs.Lying.{lying_tokens, moved_change, moved_plan, moved_tokens}
use Rattle.def_splice.specs.NetViews.{entry_with}
use Rattle.def_splice.specs.SpliceViews.{FollowsAll, MakesSplices, change_cut}
use Rattle.def_splice.specs.WiringPlanViews.{IsWired, is_wired_seen, put_text, route_so, unroute_refusals, unroute_so, wiring_change}
use Rattle.net_wiring.specs.WiringViews.{Clauses, StandBehind, any_passes, are_wiring, clauses_in, is_other, is_said, is_wired, left_of, nets_in, reads_wiring, said_in, section_of, shown, size_before, tokens_of, wiring_on}
use Rattle.net_wiring.specs.declared.wiring_clauses.EntryClauses.{EntryClauses}
use Rattle.net_wiring.specs.declared.wiring_clauses.NetSection.{NetSection}
use Rattle.def_splice.specs.declared.lying.Lying.{Lying}
use Rattle.def_splice.proofs.SomeTokens.{entry_has_some}
use Rattle.def_splice.proofs.NetPlans.{net_planned, planned, unplanned}
use Rattle.def_splice.proofs.PlanLemmas.{makes, refused}
use Rattle.net_wiring.proofs.WiringLemmas.{any_shown, barred_same, before_size, none_same, taken_size}

-- plans with the same refusals have the same outcome, if their cuts are the same where nothing refuses them
module _ (text : List ℕ) (plan so : Plan) (same : plan.refusals ≡ so.refusals) where
  abbrev outcome : List (Bool × EditCode) → List Cut → Result (List Cut) EditCode
  outcome rs cuts = unless (lowest (rs ++ (is_long (with_cuts cuts text), TooLong) ∷ [])) cuts

  by_lowest : (o : Option EditCode) → lowest plan.refusals ≡ o → (lowest plan.refusals ≡ None → cuts_for text plan.changes ≡ cuts_for text so.changes) → outcome_of text plan ≡ outcome_of text so
  by_lowest None free cuts = ap₂ outcome same (cuts free)
  by_lowest (Some code) is cuts = refused text plan code is ∙ sym (refused text so code (sym (ap lowest same) ∙ is))

  same_outcome : (lowest plan.refusals ≡ None → cuts_for text plan.changes ≡ cuts_for text so.changes) → outcome_of text plan ≡ outcome_of text so
  same_outcome cuts = by_lowest (lowest plan.refusals) refl cuts

-- what follows one of them follows the other
follows_too : {A : Type 0} (text : List ℕ) (plan so : Plan) (r : Result (List (Splice A)) EditRefusal) → outcome_of text plan ≡ outcome_of text so → FollowsAll text so r → FollowsAll text plan r
follows_too text plan so (Ok ss) same follows = same ∙ follows
follows_too text plan so (Err (Refused code)) same follows = same ∙ follows
follows_too text plan so (Err (Unreadable fault)) same follows = follows
follows_too text plan so (Err Memory) same follows = subst MayWantMemory (sym same) follows

if_turned : (e b : Bool) (x y : List ℕ) → e ≡ not b → (if e then x else y) ≡ (if b then y else x)
if_turned e true x y same = rw same refl
if_turned e false x y same = rw same refl

if_turned_changes : (e b : Bool) (xs : List (List Token × StatementChange)) → e ≡ not b → (if e then [] else xs) ≡ (if b then xs else [])
if_turned_changes e true xs same = rw same refl
if_turned_changes e false xs same = rw same refl

module _ {C : Type 0} (form : Form C) (role : C → Role) where
  -- what a text says
  said_same : (text : List ℕ) → is_some (wiring_said form role text) ≡ is_said (are_wiring form role) text
  said_same text = by_comment (opens_comment between text) (tokens text).end
    where
      by_comment : (opens : Bool) (end : Result ℕ Fault) → is_some (if opens then None else said_by form role end (tokens text).pieces) ≡ (if opens then false else said_in (are_wiring form role) end (tokens text).pieces)
      by_comment true end = refl
      by_comment false (Ok n) = refl
      by_comment false (Err fault) = refl

  module _ (text : List ℕ) (ps : List Token) (front own : ℕ) (cs : List C) where
    abbrev all : Clauses
    all = shown form role cs

    -- the cut of a change in the place of the wiring
    cut_same : (put new : List ℕ) → front ≡ own → put ≡ new
        → change_cut text ps (front + rules.tokens_of form role (before_wiring form role cs)) (rules.tokens_of form role (wiring_of form role cs)) put ≡ cut_of text ps (wiring_change own new all)
    cut_same put new e p =
        let before : front + rules.tokens_of form role (before_wiring form role cs) ≡ own + size_before is_wiring all = ap₂ (λ (m n : ℕ). m + n) e (sym (before_size form role cs)) in
        let taken : rules.tokens_of form role (wiring_of form role cs) ≡ size_before is_other (wiring_on all) = sym (taken_size form role cs) in
        ap (λ (n : ℕ). change_cut text ps n (rules.tokens_of form role (wiring_of form role cs)) put) before
        ∙ ap (λ (n : ℕ). change_cut text ps (own + size_before is_wiring all) n put) taken
        ∙ ap (change_cut text ps (own + size_before is_wiring all) (size_before is_other (wiring_on all))) p

    pub route_same : (bytes : List ℕ) (said : List Record) → (lowest (route_plan form role ps front bytes cs said).refusals ≡ None → front ≡ own)
        → outcome_of text (route_plan form role ps front bytes cs said) ≡ outcome_of text (route_so ps own bytes all (is_said (are_wiring form role) bytes))
    route_same bytes said agrees =
        let plan = route_plan form role ps front bytes cs said in
        let so = route_so ps own bytes all (is_said (are_wiring form role) bytes) in
        let held = sym (any_shown form role is_held cs) in
        let says = said_same bytes in
        let barred = sym (barred_same form role cs) in
        let same : plan.refusals ≡ so.refusals =
        ap (λ (b : Bool). (b, Fixed) ∷ (not (is_some (wiring_said form role bytes)), WiringText) ∷ (rules.is_barred form role cs, WiringApart) ∷ []) held
        ∙ ap₂ (λ (b d : Bool). (any_passes is_held all, Fixed) ∷ (not b, WiringText) ∷ (d, WiringApart) ∷ []) says barred in
        let put = if_turned (length (wiring_of form role cs) == 0) (any_passes is_wiring all) (32 ∷ bytes) bytes (none_same form role cs) in
        same_outcome text plan so same (λ free. ap (λ (c : Cut). c ∷ []) (cut_same (route_change form role front bytes cs said).put (put_text all bytes) (agrees free) put))

    pub unroute_same : (said : List Record) → (lowest (unroute_plan form role ps front cs said).refusals ≡ None → (unroute_plan form role ps front cs said).changes ≡ (ps, unroute_change form role front cs said) ∷ [] → front ≡ own)
        → outcome_of text (unroute_plan form role ps front cs said) ≡ outcome_of text (unroute_so ps own all)
    unroute_same said agrees =
        let plan = unroute_plan form role ps front cs said in
        let so = unroute_so ps own all in
        let held = sym (any_shown form role is_held cs) in
        let barred = sym (barred_same form role cs) in
        let same : plan.refusals ≡ so.refusals = ap₂ (λ (b d : Bool). (b, Fixed) ∷ (d, WiringApart) ∷ []) held barred in
        let one = (ps, unroute_change form role front cs said) ∷ [] in
        let if_any = if_turned_changes (length (wiring_of form role cs) == 0) (any_passes is_wiring all) one (none_same form role cs) in
        same_outcome text plan so same (λ free. ap (cuts_for text) if_any ∙ by_any (any_passes is_wiring all) (λ any. agrees free (if_any ∙ rw any refl)))
      where
        by_any : (any : Bool) → (any ≡ true → front ≡ own)
            → cuts_for text (if any then (ps, unroute_change form role front cs said) ∷ [] else []) ≡ cuts_for text (if any then (ps, wiring_change own [] all) ∷ [] else [])
        by_any true agrees = ap (λ (c : Cut). c ∷ []) (cut_same [] [] (agrees refl) refl)
        by_any false agrees = refl

-- the clauses of an entry stand behind its terminals
left_behind : (ps own : List Token) (ts : List Terminal) → own ≡ behind (spell_all (spell terminal) ts) (past 2 ps) → length own ≡ length ps - front_of ts
left_behind ps own ts at =
    let ws = spell_all (spell terminal) ts in
    let count : length {A = List ℕ} ([] ∷ [] ∷ ws) ≡ 2 + length ws = omega arith in
    let passed : own ≡ drop (front_of ts) ps = at ∙ behind_is_drop ([] ∷ [] ∷ ws) ps ∙ ap (λ (n : ℕ). drop n ps) count in
    ap length passed ∙ length-drop (front_of ts) ps

words_left : (run : TokenRun) → length (words_of run) ≡ length (pieces_of run)
words_left run = length-map (pieces_of run) (λ p. p.bytes)

abbrev pub tokens_left : EntryClauses → ℕ
tokens_left cs = length (words_of (tokens_of cs))

clauses_left : (ps : List Token) (ts : List Terminal) (cs : EntryClauses) → StandBehind ps ts cs → tokens_left cs ≡ length ps - front_of ts
clauses_left ps ts cs at = words_left (tokens_of cs) ∙ left_behind ps (pieces_of (tokens_of cs)) ts at

-- how many tokens of an entry stand before its clauses
abbrev pub before_clauses : TokenRun → EntryClauses → ℕ
before_clauses run cs = length (words_of run) - tokens_left cs

-- so its clauses are some of its tokens
pub clauses_within : (found : Option (List Token × Record)) (cs : EntryClauses) (x : Lying) → IsWired found cs x → tokens_left cs ≤ length (words_of x.tokens)
clauses_within found cs x w = omega (arith, clauses_left (pieces_of x.tokens) (terminals_of w.own) cs w.stand, words_left x.tokens)

tokens_there : (x : Lying) → length (lying_tokens x) ≡ length (pieces_of x.tokens)
tokens_there x = length-map (pieces_of x.tokens) (moved_token x.at)

front_is : (x : Lying) (ts : List Terminal) (cs : EntryClauses) → StandBehind (pieces_of x.tokens) ts cs → front_of ts ≤ length (lying_tokens x) → front_of ts ≡ before_clauses x.tokens cs
front_is x ts cs at low = omega (arith, clauses_left (pieces_of x.tokens) ts cs at, words_left x.tokens, low, tokens_there x)

-- an entry that is found has tokens
abbrev entry_there : List Token → Entry → Option (List Token × Entry)
entry_there ps e = Some (ps, e)

abbrev record_there : List Token → Record → Option (List Token × Record)
record_there ps rec = Some (ps, rec)

same_tokens : (ps qs : List Token) (rec : Record) (o : Option Entry) (e : Entry) → entry_there ps e ≡ (o >>= λ f. entry_there qs f) → record_there qs rec ≡ record_there ps rec
same_tokens ps qs rec None e is = absurd (cc)
same_tokens ps qs rec (Some f) e is =
    let own : List Token × Entry = (ps, e) in
    let found : List Token × Entry = (qs, f) in
    ap (λ (y : List Token × Entry). record_there y.0 rec) (sym (some_same own found is))

entry_found : (o : Option (List Token × Record)) (ps : List Token) (e : Entry) → entry_there ps e ≡ entry_with o → (rec : Record) × (o ≡ record_there ps rec)
entry_found None ps e is = absurd (cc)
entry_found (Some y) ps e is = (y.1, same_tokens ps y.0 y.1 (entry_of y.1) e is)

pub wired_some : (text : List ℕ) (design : List Record) (s : Section) (name : List ℕ) (cs : EntryClauses) (x : Lying) → IsWired (entry_at s name (located text design)) cs x → 0 < length (words_of x.tokens)
wired_some text design s name cs x w = let there = entry_found (entry_at s name (located text design)) (lying_tokens x) w.own w.is in entry_has_some text design s name x there.0 there.1

-- the plan of taking wiring out, for tokens that are moved
pub unroute_moved : (at : ℕ) (ps : List Token) (front : ℕ) (xs : Clauses) → unroute_so (moved_tokens at ps) front xs ≡ moved_plan at (unroute_so ps front xs)
unroute_moved at ps front xs = ap (λ changes. record { refusals = unroute_refusals xs; changes = changes }) (by_any (any_passes is_wiring xs))
  where
    by_any : (any : Bool) → (if any then (moved_tokens at ps, wiring_change front [] xs) ∷ [] else []) ≡ map (moved_change at) (if any then (ps, wiring_change front [] xs) ∷ [] else [])
    by_any true = refl
    by_any false = refl

lies_low : (ps : List Token) (c : StatementChange) (changes : List (List Token × StatementChange)) → changes ≡ (ps, c) ∷ [] → LieWithin changes → c.before + c.taken ≤ length ps
lies_low ps c changes one lie = (subst LieWithin one lie).0

-- the plans of an entry, by its clauses
module _ (library : Library) (design : List Record) (text : List ℕ) (ps : List Token) (own : ℕ) where
  abbrev plan_for : NetChange → Entry → Plan
  plan_for change e = plan_of_entry library design change ps e

  abbrev Agrees : NetChange → Entry → Type 0
  Agrees change e = lowest (plan_for change e).refusals ≡ None → LieWithin (plan_for change e).changes

  routed_same : (bytes : List ℕ) (e : Entry) → is_wired e ≡ true → Agrees (route_by bytes) e → (front_of (terminals_of e) ≤ length ps → front_of (terminals_of e) ≡ own)
      → outcome_of text (plan_for (route_by bytes) e) ≡ outcome_of text (route_so ps own bytes (clauses_in e) (is_said (reads_wiring (nets_in e)) bytes))
  routed_same bytes (net (is_net n)) is lie front =
      route_same net_clause net_role text ps (front_of n.terminals) own n.clauses bytes (entry (edited_net (route_by bytes) (net (is_net n))) ∷ []) (λ free. let low = (lie free).0 in front (omega (arith, low)))
  routed_same bytes (special_net n) is lie front =
      route_same special_clause special_role text ps (front_of n.terminals) own n.clauses bytes (entry (edited_net (route_by bytes) (special_net n)) ∷ []) (λ free. let low = (lie free).0 in front (omega (arith, low)))
  routed_same bytes _ is lie front = absurd (cc)

  unrouted_same : (e : Entry) → is_wired e ≡ true → Agrees unroute_all e → (front_of (terminals_of e) ≤ length ps → front_of (terminals_of e) ≡ own)
      → outcome_of text (plan_for unroute_all e) ≡ outcome_of text (unroute_so ps own (clauses_in e))
  unrouted_same (net (is_net n)) is lie front =
      let said = entry (edited_net unroute_all (net (is_net n))) ∷ [] in
      unroute_same net_clause net_role text ps (front_of n.terminals) own n.clauses said
      (λ free one. let low = lies_low ps (unroute_change net_clause net_role (front_of n.terminals) n.clauses said) _ one (lie free) in front (omega (arith, low)))
  unrouted_same (special_net n) is lie front =
      let said = entry (edited_net unroute_all (special_net n)) ∷ [] in
      unroute_same special_clause special_role text ps (front_of n.terminals) own n.clauses said
      (λ free one. let low = lies_low ps (unroute_change special_clause special_role (front_of n.terminals) n.clauses said) _ one (lie free) in front (omega (arith, low)))
  unrouted_same _ is lie front = absurd (cc)

-- the edit of a net of a text that reads
module _ (library : Library) (text name : List ℕ) (design : List Record) (reads : read_def text ≡ Ok design) (law : EditsStandInOrder) where
  abbrev found_entry : Option (List Token × Record)
  found_entry = entry_at (section_of_net unroute_all name design) name (located text design)

  module _ (x : Lying) (cs : EntryClauses) (w : IsWired found_entry cs x) where
    abbrev own_plan : NetChange → Plan
    own_plan change = plan_of_entry library design change (lying_tokens x) w.own

    within : (change : NetChange) → plan_of library text design (of_net name change) ≡ own_plan change → lowest (own_plan change).refusals ≡ None → LieWithin (own_plan change).changes
    within change is free =
        let all = law library text design (of_net name change) reads (ap (λ (p : Plan). lowest p.refusals) is ∙ free) in
        subst (λ (p : Plan). LieWithin p.changes) is all.within

    abbrev own_front : ℕ
    own_front = before_clauses x.tokens cs

    front_so : front_of (terminals_of w.own) ≤ length (lying_tokens x) → front_of (terminals_of w.own) ≡ own_front
    front_so low = front_is x (terminals_of w.own) cs w.stand low

    pub routed_makes : {A : Type 0} (bytes : List ℕ) (r : Result (List (Splice A)) EditRefusal)
        → FollowsAll text (route_so (lying_tokens x) own_front bytes (left_of cs) (is_said (reads_wiring (section_of cs)) bytes)) r → MakesSplices library text (of_net name (route_by bytes)) r
    routed_makes {A} bytes r follows =
        let so = route_so (lying_tokens x) own_front bytes (left_of cs) (is_said (reads_wiring (section_of cs)) bytes) in
        let is : plan_of library text design (of_net name (route_by bytes)) ≡ own_plan (route_by bytes) = net_planned library text name (route_by bytes) design reads (lying_tokens x, w.own) w.is in
        let entry_same = routed_same library design text (lying_tokens x) own_front bytes w.own w.clauses.wired (within (route_by bytes) is) front_so in
        let shown_same = ap₂ (λ (xs : Clauses) (section : NetSection). outcome_of text (route_so (lying_tokens x) own_front bytes xs (is_said (reads_wiring section) bytes))) w.clauses.shows w.clauses.section in
        makes library text (of_net name (route_by bytes)) design reads (own_plan (route_by bytes)) is r (follows_too text (own_plan (route_by bytes)) so r (entry_same ∙ shown_same) follows)

    pub unrouted_makes : {A : Type 0} (r : Result (List (Splice A)) EditRefusal)
        → FollowsAll text (unroute_so (lying_tokens x) own_front (left_of cs)) r → MakesSplices library text (of_net name unroute_all) r
    unrouted_makes {A} r follows =
        let so = unroute_so (lying_tokens x) own_front (left_of cs) in
        let is : plan_of library text design (of_net name unroute_all) ≡ own_plan unroute_all = net_planned library text name unroute_all design reads (lying_tokens x, w.own) w.is in
        let entry_same = unrouted_same library design text (lying_tokens x) own_front w.own w.clauses.wired (within unroute_all is) front_so in
        let shown_same = ap (λ (xs : Clauses). outcome_of text (unroute_so (lying_tokens x) own_front xs)) w.clauses.shows in
        makes library text (of_net name unroute_all) design reads (own_plan unroute_all) is r (follows_too text (own_plan unroute_all) so r (entry_same ∙ shown_same) follows)

-- where no entry is found that may have wiring, the name is unknown
module _ (library : Library) (design : List Record) where
  route_unknown : (bytes : List ℕ) (ps : List Token) (e : Entry) → is_wired e ≡ false → plan_of_entry library design (route_by bytes) ps e ≡ refused_plan UnknownName
  route_unknown bytes ps (net (is_net n)) isnt = absurd (cc)
  route_unknown bytes ps (special_net n) isnt = absurd (cc)
  route_unknown bytes ps _ isnt = refl

  unroute_unknown : (ps : List Token) (e : Entry) → is_wired e ≡ false → plan_of_entry library design unroute_all ps e ≡ refused_plan UnknownName
  unroute_unknown ps (net (is_net n)) isnt = absurd (cc)
  unroute_unknown ps (special_net n) isnt = absurd (cc)
  unroute_unknown ps _ isnt = refl

  by_seen : (change : NetChange) → ((ps : List Token) (e : Entry) → is_wired e ≡ false → plan_of_entry library design change ps e ≡ refused_plan UnknownName)
      → (found : Option (List Token × Record)) (o : Option (List Token × Entry)) → o ≡ entry_with found → is_wired_seen o ≡ false → net_plan library design change found ≡ refused_plan UnknownName
  by_seen change unknown found None is isnt = unplanned library design change found is
  by_seen change unknown found (Some x) is isnt = planned library design change found x is ∙ unknown x.0 x.1 isnt

-- so its edit is refused
module _ (library : Library) (text name : List ℕ) (design : List Record) (reads : read_def text ≡ Ok design) where
  abbrev found_there : Option (List Token × Record)
  found_there = entry_at (section_of_net unroute_all name design) name (located text design)

  pub route_refused : (A : Type 0) (bytes : List ℕ) → is_wired_seen (entry_with found_there) ≡ false → MakesSplices {A = A} library text (of_net name (route_by bytes)) (Err (Refused UnknownName))
  route_refused A bytes isnt =
      let plan = refused_plan UnknownName in
      let is = by_seen library design (route_by bytes) (route_unknown library design bytes) found_there (entry_with found_there) refl isnt in
      makes library text (of_net name (route_by bytes)) design reads plan is {A = A} (Err (Refused UnknownName)) (refused text plan UnknownName refl)

  pub unroute_refused : (A : Type 0) → is_wired_seen (entry_with found_there) ≡ false → MakesSplices {A = A} library text (of_net name unroute_all) (Err (Refused UnknownName))
  unroute_refused A isnt =
      let plan = refused_plan UnknownName in
      let is = by_seen library design unroute_all (unroute_unknown library design) found_there (entry_with found_there) refl isnt in
      makes library text (of_net name unroute_all) design reads plan is {A = A} (Err (Refused UnknownName)) (refused text plan UnknownName refl)
