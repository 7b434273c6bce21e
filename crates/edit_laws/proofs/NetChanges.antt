-- The plan of an edit of a net is one for the edited design.
use Rattle.std.proofs.Common.{◌≡◌, ◌⊎◌, inl, inr, ℕ, Bool, true, false, not, ◌==◌, ◌&&◌, List, [], ◌∷◌, ◌++◌, length, map, unwrap_or, Option, Some, None, Ok, refl, sym, ap, ap₂, subst, ◌∙◌, ⊎_elim, if◌then◌else◌}
use Rattle.std.specs.List.{filter_map, list_any}
use Rattle.std.specs.Str.{bytes_eq}
use Rattle.std.proofs.lemmas.Bool.{cases_Bool as cases, and_parts, and_from, not-false}
use Rattle.std.proofs.lemmas.List.{map-append}
use Rattle.std.proofs.lemmas.Slice.Eq.{bytes_eq-Decides}
use Rattle.design_model.specs.declared.mode.Mode.TheVariants.{Top}
use Rattle.design_model.specs.declared.mode.Section.{Section}
use Rattle.design_model.specs.declared.mode.Section.TheVariants.{Nets, SpecialNets}
use Rattle.design_model.specs.EnumWords.{section_word}
use Rattle.edit_model.specs.declared.edit.EditCode.{EditCode}
use Rattle.edit_model.specs.declared.edit.EditCode.TheVariants.{UnknownName, Fixed, Connection, WiringText, WiringApart}
use Rattle.statement_model.specs.Tokens.{Token, tokens}
use Rattle.statement_model.specs.Boundaries.{words}
use Rattle.statement_model.specs.Form.{Form}
use Rattle.statement_model.specs.Grammar.{Key}
use Rattle.statement_model.specs.Reading.{same_words, read_from}
use Rattle.def_grammar.specs.Located.{located, entry_at, is_entry, is_named}
use Rattle.def_grammar.specs.Nets.{is_net, must_join, net_clause}
use Rattle.def_grammar.specs.Parts.{is_some}
use Rattle.def_grammar.specs.Records.{Entry, component, pin, region, group, blockage, net, special_net, via, rule, skipped, section_of, name_of, Record, top, in_properties, end_section, entry, entry_of, entry_key, key_of, def, read_def}
use Rattle.def_grammar.specs.SpecialNets.{special_clause}
use Rattle.def_grammar.specs.Terminals.{Terminal}
use Rattle.lef_grammar.specs.Library.{Library}
use Rattle.form_meanings.proofs.Steps.{some_same}
use Rattle.edit_rules.specs.Edits.{on_entry, on_named, of_net, applied}
use Rattle.edit_rules.specs.NameTexts.{is_name_text}
use Rattle.edit_rules.specs.NetEdits.{NetChange, connect_to, disconnect_from, route_by, unroute_all, Role, is_held, is_terminal, before_terminal, behind_terminal, new_terminal, net_role, special_role, wiring_of, wiring_said, is_barred, routed_clauses, unrouted_clauses, before_wiring, behind_wiring, route_plan, unroute_plan, route_change, unroute_change, front_of, connect_change, disconnect_change, lists, is_pin, edited_net, plan_of_entry, plan_of_record, net_plan, section_of_net}
use Rattle.edit_rules.specs.Plans.{StatementChange, lowest}
use Rattle.splicing_laws.specs.SplicingLaws.{TokensArePut}
use Rattle.splicing_laws.specs.WordLaws.{SpacedAreTokens}
use Rattle.edit_laws.specs.EntryLaws.{IsEditOf, EntriesAreWritten, OneIsEdited}
use Rattle.edit_laws.specs.NetLaws.{EntriesAreFound, IsOneChange, EditsEntry, IsOfNet, NetEntriesAreEdited, NetPlansAreMade}
use Rattle.edit_laws.specs.PlanLaws.{Plans}
use Rattle.edit_laws.specs.StatementLaws.{records, StandsAmong, IsChange, Make, SameKeysAreOnce}
use Rattle.edit_laws.proofs.FoundEntries.{entry_found}
use Rattle.edit_laws.proofs.Keys.{key_itself}
use Rattle.edit_laws.proofs.NetClauses.{AreClauses, net_clauses, special_clauses}
use Rattle.edit_laws.proofs.NetEntries.{IsNetText, MakesEntries, net_of, net_is_text, net_makes, special_of, special_is_text, special_makes}
use Rattle.edit_laws.proofs.PlanTexts.{tokens_read}
use Rattle.edit_laws.proofs.TerminalChanges.{connect_is, disconnect_is}
use Rattle.edit_laws.proofs.WiringChanges.{route_is, unroute_is, nothing_unrouted}

-- where no test refuses, none holds
none_of_one : (a : Bool) (x : EditCode) → lowest ((a, x) ∷ []) ≡ None → a ≡ false
none_of_one true x e = absurd (cc)
none_of_one false x e = refl

none_of_two : (a b : Bool) (x y : EditCode) → lowest ((a, x) ∷ (b, y) ∷ []) ≡ None → (a ≡ false) × (b ≡ false)
none_of_two true b x y e = absurd (cc)
none_of_two false b x y e = (refl, none_of_one b y e)

none_of_three : (a b c : Bool) (x y z : EditCode) → lowest ((a, x) ∷ (b, y) ∷ (c, z) ∷ []) ≡ None → (b ≡ false) × (c ≡ false)
none_of_three true b c x y z e = absurd (cc)
none_of_three false b c x y z e = none_of_two b c y z e

has_some : {A : Type 0} (o : Option A) → is_some o ≡ true → (a : A) × (o ≡ Some a)
has_some None is = absurd (cc)
has_some (Some a) is = (a, refl)

-- the edits of an entry of either section
module _ (spaced_so : SpacedAreTokens) (put_so : TokensArePut) {C : Type 0} (form : Form C) (role : C → Role) (are : AreClauses form role) (name : List ℕ) (make : List Terminal → List C → Entry) (makes : MakesEntries form name make) (ps : List Token) (ts : List Terminal) (cs : List C) (text : IsNetText form name (words ps) ts cs) where
  abbrev Becomes : List Terminal → List C → List (List Token × StatementChange) → Type 0
  Becomes us ds changes = IsOneChange ps (make ts cs) (make us ds) changes

  connected : (c p : List ℕ) → is_name_text c ≡ true → is_name_text p ≡ true
      → Becomes (ts ++ new_terminal c p ∷ []) cs ((ps, connect_change c p ts (entry (make (ts ++ new_terminal c p ∷ []) cs) ∷ [])) ∷ [])
  connected c p owner named = record { change = _; is = refl; holds = connect_is form name make makes ps ts cs text spaced_so c p owner named; said = refl }

  disconnected : (c p : List ℕ) → list_any (is_terminal c p) ts ≡ true
      → Becomes (before_terminal c p ts ++ behind_terminal c p ts) cs ((ps, disconnect_change c p ts (entry (make (before_terminal c p ts ++ behind_terminal c p ts) cs) ∷ [])) ∷ [])
  disconnected c p listed = record { change = _; is = refl; holds = disconnect_is form name make makes ps ts cs text c p listed; said = refl }

  abbrev routed_by : List ℕ → List Record
  routed_by bytes = entry (make ts (routed_clauses form role bytes cs)) ∷ []

  routed_is : (bytes : List ℕ) → lowest (route_plan form role ps (front_of ts) bytes cs (routed_by bytes)).refusals ≡ None
      → Becomes ts (routed_clauses form role bytes cs) (route_plan form role ps (front_of ts) bytes cs (routed_by bytes)).changes
  routed_is bytes free =
      let none = none_of_three (list_any (λ c. is_held (role c)) cs) (not (is_some (wiring_said form role bytes))) (is_barred form role cs) Fixed WiringText WiringApart free in
      let is = has_some (wiring_said form role bytes) (not-false (is_some (wiring_said form role bytes)) none.0) in
      let now : before_wiring form role cs ++ (is.0 ++ behind_wiring form role cs) ≡ routed_clauses form role bytes cs = ap (λ (o : Option (List C)). before_wiring form role cs ++ (unwrap_or o [] ++ behind_wiring form role cs)) (sym is.1) in
      record {
        change = route_change form role (front_of ts) bytes cs (routed_by bytes);
        is = refl;
        holds = subst (λ (ds : List C). IsChange ps (entry (make ts cs)) (route_change form role (front_of ts) bytes cs (entry (make ts ds) ∷ []))) now (route_is form role are name make makes ps ts cs text none.1 put_so bytes is.0 is.1);
        said = refl;
      }

  abbrev unrouted : List Record
  unrouted = entry (make ts (unrouted_clauses form role cs)) ∷ []

  unrouted_is : lowest (unroute_plan form role ps (front_of ts) cs unrouted).refusals ≡ None
      → EditsEntry ps (make ts cs) (make ts (unrouted_clauses form role cs)) (unroute_plan form role ps (front_of ts) cs unrouted).changes
  unrouted_is free =
      let barred = none_of_two (list_any (λ c. is_held (role c)) cs) (is_barred form role cs) Fixed WiringApart free in
      ⊎_elim
      (λ (none : (length (wiring_of form role cs) == 0) ≡ true). rw none (inr (refl, ap (make ts) (nothing_unrouted form role are cs none))))
      (λ (some : (length (wiring_of form role cs) == 0) ≡ false).
      rw some (inl (record { change = unroute_change form role (front_of ts) cs unrouted; is = refl; holds = unroute_is form role are name make makes ps ts cs text barred.1 some; said = refl })))
      (cases (length (wiring_of form role cs) == 0))

-- what may be connected are names that may be put into a text
pin_names : (library : Library) (design : List Record) (c p : List ℕ) → is_pin library design c p ≡ true → (is_name_text c ≡ true) × (is_name_text p ≡ true)
pin_names library design c p is = let outer = and_parts (is_name_text c && is_name_text p) _ is in and_parts (is_name_text c) (is_name_text p) outer.0

may_connect : (library : Library) (design : List Record) (c p : List ℕ) (ps : List Token) (e : Entry) → lowest (plan_of_entry library design (connect_to c p) ps e).refusals ≡ None → (is_name_text c ≡ true) × (is_name_text p ≡ true)
may_connect library design c p ps e free = pin_names library design c p (not-false (is_pin library design c p) (none_of_two (not (is_pin library design c p)) (list_any (lists c p) (filter_map entry_of design)) UnknownName Connection free).0)

is_listed : (library : Library) (design : List Record) (c p : List ℕ) (ps : List Token) (e : Entry) → lowest (plan_of_entry library design (disconnect_from c p) ps e).refusals ≡ None → lists c p e ≡ true
is_listed library design c p ps e free = not-false (lists c p e) (none_of_one (not (lists c p e)) Connection free)

pub net_entries_are_edited : SpacedAreTokens → TokensArePut → NetEntriesAreEdited
net_entries_are_edited spaced_so put_so library design (connect_to c p) ps (net (is_net n)) it is free =
    let names = may_connect library design c p ps (net (is_net n)) free in
    inl (connected spaced_so put_so net_clause net_role net_clauses n.name (net_of n.name) (net_makes n (words ps) is) ps n.terminals n.clauses (net_is_text n (words ps) is) c p names.0 names.1)
net_entries_are_edited spaced_so put_so library design (connect_to c p) ps (special_net n) it is free =
    let names = may_connect library design c p ps (special_net n) free in
    inl (connected spaced_so put_so special_clause special_role special_clauses n.name (special_of n.name) (special_makes n (words ps) is) ps n.terminals n.clauses (special_is_text n (words ps) is) c p names.0 names.1)
net_entries_are_edited spaced_so put_so library design (disconnect_from c p) ps (net (is_net n)) it is free =
    inl (disconnected spaced_so put_so net_clause net_role net_clauses n.name (net_of n.name) (net_makes n (words ps) is) ps n.terminals n.clauses (net_is_text n (words ps) is) c p (is_listed library design c p ps (net (is_net n)) free))
net_entries_are_edited spaced_so put_so library design (disconnect_from c p) ps (special_net n) it is free =
    inl (disconnected spaced_so put_so special_clause special_role special_clauses n.name (special_of n.name) (special_makes n (words ps) is) ps n.terminals n.clauses (special_is_text n (words ps) is) c p (is_listed library design c p ps (special_net n) free))
net_entries_are_edited spaced_so put_so library design (route_by text) ps (net (is_net n)) it is free =
    inl (routed_is spaced_so put_so net_clause net_role net_clauses n.name (net_of n.name) (net_makes n (words ps) is) ps n.terminals n.clauses (net_is_text n (words ps) is) text free)
net_entries_are_edited spaced_so put_so library design (route_by text) ps (special_net n) it is free =
    inl (routed_is spaced_so put_so special_clause special_role special_clauses n.name (special_of n.name) (special_makes n (words ps) is) ps n.terminals n.clauses (special_is_text n (words ps) is) text free)
net_entries_are_edited spaced_so put_so library design unroute_all ps (net (is_net n)) it is free =
    unrouted_is spaced_so put_so net_clause net_role net_clauses n.name (net_of n.name) (net_makes n (words ps) is) ps n.terminals n.clauses (net_is_text n (words ps) is) free
net_entries_are_edited spaced_so put_so library design unroute_all ps (special_net n) it is free =
    unrouted_is spaced_so put_so special_clause special_role special_clauses n.name (special_of n.name) (special_makes n (words ps) is) ps n.terminals n.clauses (special_is_text n (words ps) is) free
net_entries_are_edited spaced_so put_so library design change ps (component c) it is free = absurd it
net_entries_are_edited spaced_so put_so library design change ps (inl (inr other)) it is free = absurd it
net_entries_are_edited spaced_so put_so library design change ps (net (must_join tokens)) it is free = absurd it
net_entries_are_edited spaced_so put_so library design change ps (inr (inl (inr (inr other)))) it is free = absurd it
net_entries_are_edited spaced_so put_so library design change ps (inr (inr other)) it is free = absurd it

-- the entry that is found has its name
found_named : (s : Section) (name : List ℕ) (all : List (List Token × Record)) (y : List Token × Record) → entry_at s name all ≡ Some y → is_entry s name (entry_of y.1) ≡ true
found_named s name [] y e = absurd (cc)
found_named s name (x ∷ xs) y e = ⊎_elim
    (λ (here : is_entry s name (entry_of x.1) ≡ true).
    let h = rw here at e in
    subst (λ (z : List Token × Record). is_entry s name (entry_of z.1) ≡ true) (some_same x y h) here)
    (λ (other : is_entry s name (entry_of x.1) ≡ false). found_named s name xs y (rw other at e))
    (cases (is_entry s name (entry_of x.1)))

named_so : (name : List ℕ) (o : Option (List ℕ)) → is_named name o ≡ true → o ≡ Some name
named_so name None is = absurd (cc)
named_so name (Some own) is = ap (λ (n : List ℕ). Some n) ((bytes_eq-Decides own name).0 is)

-- what an entry of a section and a name has
entry_parts : (s : Section) (name : List ℕ) (e : Entry) → is_entry s name (Some e) ≡ true → (section_word (section_of e) ≡ section_word s) × (name_of e ≡ Some name)
entry_parts s name e is =
    let both = and_parts (bytes_eq (section_word (section_of e)) (section_word s)) (is_named name (name_of e)) is in
    ((bytes_eq-Decides (section_word (section_of e)) (section_word s)).0 both.0, named_so name (name_of e) both.1)

pub entries_are_found : EntriesAreFound
entries_are_found all s name ps rec found =
    let x : List Token × Record = (ps, rec) in
    let is = entry_found s name all x found in
    let named = subst (λ (r : Record). is_entry s name (entry_of r) ≡ true) is.says (found_named s name all x found) in
    (is.e, is.says, is.stands, is.section, (entry_parts s name is.e named).1)

-- an edit is about the entry of a net in one of its two sections
if_section : (b : Bool) (s t : Section) (P : Section → Type 0) → P s → P t → P (if b then s else t)
if_section true s t P p q = p
if_section false s t P p q = q

abbrev OfNets : Section → Type 0
OfNets s = (s ≡ Nets) ⊎ (s ≡ SpecialNets)

net_section : (change : NetChange) (name : List ℕ) (design : List Record) → OfNets (section_of_net change name design)
net_section (connect_to c p) name design = if_section _ Nets SpecialNets OfNets (inl refl) (inr refl)
net_section (disconnect_from c p) name design = if_section _ SpecialNets _ OfNets (inr refl) (if_section _ Nets SpecialNets OfNets (inl refl) (inr refl))
net_section (route_by text) name design = if_section _ Nets SpecialNets OfNets (inl refl) (inr refl)
net_section unroute_all name design = if_section _ Nets SpecialNets OfNets (inl refl) (inr refl)

both_none : {P Q R : Type 0} → (P → R) → (Q → R) → P ⊎ Q → R
both_none f g x = ⊎_elim f g x

is_of_net : (name : List ℕ) (e : Entry) → OfNets (section_of e) → name_of e ≡ Some name → IsOfNet e
is_of_net name (net (is_net n)) of named = tt
is_of_net name (special_net n) of named = tt
is_of_net name (net (must_join tokens)) of named = absurd (cc)
is_of_net name (skipped s tokens) of named = absurd (cc)
is_of_net name (component c) of named = absurd (both_none (λ e. cc) (λ e. cc) of)
is_of_net name (pin p) of named = absurd (both_none (λ e. cc) (λ e. cc) of)
is_of_net name (region r) of named = absurd (both_none (λ e. cc) (λ e. cc) of)
is_of_net name (group g) of named = absurd (both_none (λ e. cc) (λ e. cc) of)
is_of_net name (blockage b) of named = absurd (cc)
is_of_net name (via v) of named = absurd (both_none (λ e. cc) (λ e. cc) of)
is_of_net name (rule r) of named = absurd (both_none (λ e. cc) (λ e. cc) of)

-- an edit of the entry of a net leaves all keys
edited_key : (change : NetChange) (e : Entry) → key_of (entry (edited_net change e)) ≡ key_of (entry e)
edited_key change (net (is_net n)) = refl
edited_key change (special_net n) = refl
edited_key change (inl other) = refl
edited_key change (net (must_join tokens)) = refl
edited_key change (inr (inl (inr (inr other)))) = refl
edited_key change (inr (inr other)) = refl

module _ (s : Section) (name : List ℕ) (change : NetChange) where
  abbrev edited : Entry → Entry
  edited = on_named s name (edited_net change)

  one_key : (rec : Record) → key_of (on_entry edited rec) ≡ key_of rec
  one_key (top t) = refl
  one_key (in_properties p) = refl
  one_key (end_section t) = refl
  one_key (entry e) = ⊎_elim
      (λ (is : is_entry s name (Some e) ≡ true). rw is (edited_key change e))
      (λ (other : is_entry s name (Some e) ≡ false). rw other refl)
      (cases (is_entry s name (Some e)))

  same_keys : (recs : List Record) → map key_of (map (on_entry edited) recs) ≡ map key_of recs
  same_keys [] = refl
  same_keys (r ∷ recs) = ap₂ (λ (k : Key) (ks : List Key). k ∷ ks) (one_key r) (same_keys recs)

  key_is : (e : Entry) → section_word (section_of e) ≡ section_word s → name_of e ≡ Some name → key_of (entry e) ≡ section_word s ∷ name ∷ []
  key_is e section named = ap (entry_key (section_of e)) named ∙ ap (λ (w : List ℕ). w ∷ name ∷ []) section

  module _ (e : Entry) (section : section_of e ≡ s) (named : name_of e ≡ Some name) where
    own_key : key_of (entry e) ≡ section_word s ∷ name ∷ []
    own_key = key_is e (ap section_word section) named

    others_stay : (other : Entry) → same_words (key_of (entry e)) (key_of (entry other)) ≡ false → edited other ≡ other
    others_stay other differs = ⊎_elim
        (λ (is : is_entry s name (Some other) ≡ true).
        let parts = entry_parts s name other is in
        let same : key_of (entry e) ≡ key_of (entry other) = own_key ∙ sym (key_is other parts.0 parts.1) in
        let again : same_words (key_of (entry e)) (key_of (entry other)) ≡ true = ap (same_words (key_of (entry e))) (sym same) ∙ key_itself (key_of (entry e)) in
        absurd (cc))
        (λ (no : is_entry s name (Some other) ≡ false). rw no refl)
        (cases (is_entry s name (Some other)))

    is_here : is_entry s name (Some e) ≡ true
    is_here =
        and_from (bytes_eq (section_word (section_of e)) (section_word s)) (is_named name (name_of e)) ((bytes_eq-Decides (section_word (section_of e)) (section_word s)).1 (ap section_word section))
        (ap (is_named name) named ∙ (bytes_eq-Decides name name).1 refl)

    is_edit : IsEditOf edited e (edited_net change e)
    is_edit = record { name = name; named = named; here = let is = is_here in rw is refl; elsewhere = others_stay }

module _ (found_so : EntriesAreFound) (written_so : EntriesAreWritten) (one_so : OneIsEdited) (keys_so : SameKeysAreOnce) (edited_so : NetEntriesAreEdited) (library : Library) (text : List ℕ) (design : List Record) (name : List ℕ) (change : NetChange) (reads : read_def text ≡ Ok design) where
  abbrev here : Section
  here = section_of_net change name design

  abbrev new : List Record
  new = applied (of_net name change) design

  whole : read_from def (Top, []) (tokens text) ≡ Ok design
  whole = tokens_read text design reads

  entry_plan : (ps : List Token) (e : Entry) → StandsAmong (located text design) ps (entry e) → section_of e ≡ here → name_of e ≡ Some name → Plans text design (plan_of_entry library design change ps e) new
  entry_plan ps e st section named = λ free.
      let written = written_so text 0 (Top, []) design ps e whole st in
      let it = is_of_net name e (subst OfNets (sym section) (net_section change name design)) named in
      let said = edited_net change e in
      let made : new ≡ records st.first ++ entry said ∷ records st.others = one_so text 0 (Top, []) design ps e said (edited here name change) whole st (is_edit here name change e section named) in
      let all : records (located text design) ≡ records st.first ++ entry e ∷ records st.others = ap records st.all_are ∙ map-append (λ s. s.1) st.first ((ps, entry e) ∷ st.others) in
      let makes = ⊎_elim
      (λ (one : IsOneChange ps e said (plan_of_entry library design change ps e).changes).
      let put : new ≡ records st.first ++ (one.change.said ++ records st.others) = made ∙ ap (λ (rs : List Record). records st.first ++ (rs ++ records st.others)) (sym one.said) in
      subst (λ (xs : List (List Token × StatementChange)). Make (located text design) xs new) (sym one.is) (entry e, st, one.holds, records st.others, refl, put))
      (λ (none : ((plan_of_entry library design change ps e).changes ≡ []) × (said ≡ e)).
      let stays : new ≡ records (located text design) = made ∙ (ap (λ (d : Entry). records st.first ++ entry d ∷ records st.others) none.1 ∙ sym all) in
      subst (λ (xs : List (List Token × StatementChange)). Make (located text design) xs new) (sym none.0) stays)
      (edited_so library design change ps e it written free) in
      (makes, keys_so text 0 Top [] design new whole (same_keys here name change design))

  found_plan : (found : Option (List Token × Record)) → entry_at here name (located text design) ≡ found → Plans text design (net_plan library design change found) new
  found_plan None is = λ free. absurd (cc)
  found_plan (Some x) is =
      let f = found_so (located text design) here name x.0 x.1 is in
      subst (λ (rec : Record). Plans text design (plan_of_record library design change x.0 (entry_of rec)) new) (sym f.1) (entry_plan x.0 f.0 f.2 f.3 f.4)

pub net_plans_are_made : EntriesAreFound → EntriesAreWritten → OneIsEdited → SameKeysAreOnce → NetEntriesAreEdited → NetPlansAreMade
net_plans_are_made found_so written_so one_so keys_so edited_so library text design name change reads =
    found_plan found_so written_so one_so keys_so edited_so library text design name change reads (entry_at (section_of_net change name design) name (located text design)) refl
