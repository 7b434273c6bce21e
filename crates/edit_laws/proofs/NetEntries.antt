-- The entries of nets in both sections: the words of a name, of terminals and of clauses that fit.
use Rattle.std.proofs.Common.{◌≡◌, ◌<◌, ℕ, Bool, true, false, List, [], ◌∷◌, ◌++◌, length, None, arith, refl, sym, ap, ◌∙◌, codes, append_assoc, append-nil}
use Rattle.form_meanings.specs.Words.{is_plus, first_passes}
use Rattle.form_meanings.specs.Meaning.{spell_all, bad_of_all}
use Rattle.statement_model.specs.Form.{Form, spell, Fits}
use Rattle.def_grammar.specs.Nets.{Net, NetClause, is_net, net_clause, net_form, net}
use Rattle.def_grammar.specs.Points.{is_open}
use Rattle.def_grammar.specs.Records.{Entry, entries_form, section_of}
use Rattle.def_grammar.specs.Records.{net as net_entry, special_net as special_entry}
use Rattle.def_grammar.specs.SpecialNets.{SpecialNet, SpecialClause, special_clause, special_net_form}
use Rattle.def_grammar.specs.Terminals.{Terminal, synthesized, terminal}
use Rattle.edit_rules.specs.NetEdits.{net_role, special_role}
use Rattle.edit_laws.specs.EntryLaws.{IsWritten}
use Rattle.edit_laws.proofs.Moves.{neither, none_of}
use Rattle.edit_laws.proofs.NetClauses.{end, clause_leads, clause_words, stops_before, net_clauses, special_clauses}
use Rattle.edit_laws.proofs.NetRuns.{AllFit, AllGood, each_fits, all_fit, long_enough}

-- a terminal that fits does so anywhere, and has no number
flag_fits : (b : Bool) (ws : List (List ℕ)) → Fits synthesized b (codes ")" ∷ ws)
unfolding synthesized
flag_fits true ws = (refl, tt)
flag_fits false ws = refl

terminal_anywhere : (t : Terminal) (ws vs : List (List ℕ)) → Fits terminal t ws → Fits terminal t vs
unfolding terminal
terminal_anywhere t ws vs fits = (fits.0, (fits.1.0, flag_fits t.is_synthesized vs))

pub terminals_anywhere : (ts : List Terminal) (ws vs : List (List ℕ)) → AllFit terminal.of ts ws → AllFit terminal.of ts vs
terminals_anywhere [] ws vs fits = tt
terminals_anywhere (t ∷ ts) ws vs fits = (terminal_anywhere t (spell_all (spell terminal) ts ++ ws) (spell_all (spell terminal) ts ++ vs) fits.0, terminals_anywhere ts ws vs fits.1)

no_number : (b : Bool) (ws : List (List ℕ)) → synthesized.of.bad b ws ≡ None
unfolding synthesized
no_number true ws = refl
no_number false ws = refl

terminal_good : (t : Terminal) (ws : List (List ℕ)) → terminal.of.bad t ws ≡ None
unfolding terminal
terminal_good t ws = no_number t.is_synthesized (codes ")" ∷ ws)

terminals_good : (ts : List Terminal) (ws : List (List ℕ)) → bad_of_all (spell terminal) terminal.of.bad ts ws ≡ None
terminals_good [] ws = refl
terminals_good (t ∷ ts) ws = none_of (terminal.of.bad t (spell_all (spell terminal) ts ++ ws)) (bad_of_all (spell terminal) terminal.of.bad ts ws) (terminal_good t _) (terminals_good ts ws)

terminal_leads : (t : Terminal) (ws : List (List ℕ)) → first_passes is_open (spell terminal t ++ ws) ≡ true
unfolding terminal
terminal_leads t ws = refl

pub terminal_words : (t : Terminal) → 0 < length (spell terminal t)
unfolding terminal
terminal_words t = omega arith

-- the words of the entry of a net
abbrev pub words_of_net : {C : Type 0} → Form C → List ℕ → List Terminal → List C → List (List ℕ)
words_of_net form name ts cs = codes "-" ∷ name ∷ (spell_all (spell terminal) ts ++ (spell_all (spell form) cs ++ end))

-- these are those words, and its terminals and clauses fit and have no invalid number
pub record IsNetText {C : Type 0} (form : Form C) (name : List ℕ) (ws : List (List ℕ)) (ts : List Terminal) (cs : List C) : Type 0 where
  pub spelled : ws ≡ words_of_net form name ts cs
  pub terminals : AllFit terminal.of ts []
  pub clauses : AllFit form.of cs end
  pub good : AllGood form.of cs end

-- what is written so is an entry with this name, of one section
pub record MakesEntries {C : Type 0} (form : Form C) (name : List ℕ) (make : List Terminal → List C → Entry) : Type 0 where
  pub write : (ws : List (List ℕ)) (ts : List Terminal) (cs : List C) → IsNetText form name ws ts cs → IsWritten ws (make ts cs)
  pub section : (ts us : List Terminal) (cs ds : List C) → section_of (make ts cs) ≡ section_of (make us ds)

-- the entry of NETS
abbrev pub net_of : List ℕ → List Terminal → List NetClause → Entry
net_of name ts cs = net_entry (is_net (record { name = name; terminals = ts; clauses = cs }))

module _ (n : Net) (ws : List (List ℕ)) (is : IsWritten ws (net_entry (is_net n))) where
  pub net_is_text : IsNetText net_clause n.name ws n.terminals n.clauses
  unfolding entries_form net_form net
  net_is_text =
      let fits = is.fits.1.1 in
      let behind = spell_all (spell net_clause) n.clauses ++ end in
      record {
        spelled = is.spelled ∙ ap (λ (us : List (List ℕ)). codes "-" ∷ n.name ∷ us) (append_assoc (spell_all (spell terminal) n.terminals) (spell_all (spell net_clause) n.clauses) end);
        terminals = terminals_anywhere n.terminals behind [] (each_fits terminal.of is_open n.terminals behind fits.0.1);
        clauses = each_fits net_clause.of is_plus n.clauses end fits.1.1;
        good = (neither (bad_of_all (spell terminal) terminal.of.bad n.terminals behind) (bad_of_all (spell net_clause) net_clause.of.bad n.clauses end) is.good).1;
      }

  pub net_makes : MakesEntries net_clause n.name (net_of n.name)
  unfolding entries_form net_form net
  net_makes = record {
    write = λ vs ts cs text.
        let behind = spell_all (spell net_clause) cs ++ end in
        let stops = stops_before net_clause net_role net_clauses is_open refl refl cs in
        let terminals = all_fit terminal.of is_open terminal_leads ts behind stops (terminals_anywhere ts [] behind text.terminals) in
        let clauses = all_fit net_clause.of is_plus (clause_leads net_clause net_role net_clauses) cs end refl text.clauses in
        record {
          spelled = text.spelled ∙ ap (λ (us : List (List ℕ)). codes "-" ∷ n.name ∷ us) (sym (append_assoc (spell_all (spell terminal) ts) (spell_all (spell net_clause) cs) end));
          fits = (is.fits.0, (is.fits.1.0, ((long_enough terminal.of terminal_words ts behind, terminals), (long_enough net_clause.of (clause_words net_clause net_role net_clauses) cs end, clauses))));
          good = none_of (bad_of_all (spell terminal) terminal.of.bad ts behind) (bad_of_all (spell net_clause) net_clause.of.bad cs end) (terminals_good ts behind) text.good;
        };
    section = λ ts us cs ds. refl;
  }

-- the entry of SPECIALNETS
abbrev pub special_of : List ℕ → List Terminal → List SpecialClause → Entry
special_of name ts cs = special_entry (record { name = name; terminals = ts; clauses = cs })

module _ (n : SpecialNet) (ws : List (List ℕ)) (is : IsWritten ws (special_entry n)) where
  pub special_is_text : IsNetText special_clause n.name ws n.terminals n.clauses
  unfolding entries_form special_net_form
  special_is_text =
      let fits = is.fits.1 in
      let behind = (spell_all (spell special_clause) n.clauses ++ end) ++ [] in
      record {
        spelled = is.spelled;
        terminals = terminals_anywhere n.terminals behind [] (each_fits terminal.of is_open n.terminals behind fits.0.1);
        clauses = each_fits special_clause.of is_plus n.clauses end fits.1.1;
        good = (neither (bad_of_all (spell terminal) terminal.of.bad n.terminals behind) (bad_of_all (spell special_clause) special_clause.of.bad n.clauses end) is.good).1;
      }

  pub special_makes : MakesEntries special_clause n.name (special_of n.name)
  unfolding entries_form special_net_form
  special_makes = record {
    write = λ vs ts cs text.
        let behind = (spell_all (spell special_clause) cs ++ end) ++ [] in
        let stops = ap (first_passes is_open) (append-nil (spell_all (spell special_clause) cs ++ end)) ∙ stops_before special_clause special_role special_clauses is_open refl refl cs in
        let terminals = all_fit terminal.of is_open terminal_leads ts behind stops (terminals_anywhere ts [] behind text.terminals) in
        let clauses = all_fit special_clause.of is_plus (clause_leads special_clause special_role special_clauses) cs end refl text.clauses in
        record {
          spelled = text.spelled;
          fits = (is.fits.0, ((long_enough terminal.of terminal_words ts behind, terminals), (long_enough special_clause.of (clause_words special_clause special_role special_clauses) cs end, clauses)));
          good = none_of (bad_of_all (spell terminal) terminal.of.bad ts behind) (bad_of_all (spell special_clause) special_clause.of.bad cs end) (terminals_good ts behind) text.good;
        };
    section = λ ts us cs ds. refl;
  }
