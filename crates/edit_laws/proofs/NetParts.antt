-- Tokens of the entry of a net in the place of others: a change of the entry.
use Rattle.std.proofs.Common.{◌≡◌, ◌≤◌, ℕ, ◌+◌, List, [], ◌∷◌, ◌++◌, length, take, drop, arith, sym, ap, ap₂, subst, ◌∙◌, append_assoc, length-append, take_at, drop_at}
use Rattle.std.proofs.lemmas.List.{length-map}
use Rattle.statement_model.specs.Tokens.{Token}
use Rattle.statement_model.specs.Boundaries.{words}
use Rattle.statement_model.specs.Form.{Form}
use Rattle.def_grammar.specs.Records.{Entry, Record, entry}
use Rattle.def_grammar.specs.Terminals.{Terminal}
use Rattle.edit_rules.specs.Plans.{StatementChange}
use Rattle.splicing_laws.specs.SplicingLaws.{AreTokens}
use Rattle.edit_laws.specs.StatementLaws.{changed_words, AreSaid, BeginsWhite, IsChange}
use Rattle.edit_laws.proofs.NetEntries.{IsNetText, MakesEntries}
use Rattle.edit_laws.proofs.WrittenEntries.{written_instead}

-- words of which some are to be taken: those before them, these, and those behind
pub record InParts (ws : List (List ℕ)) (before taken : ℕ) : Type 0 where
  pub front : List (List ℕ)
  pub middle : List (List ℕ)
  pub behind : List (List ℕ)
  pub all_are : ws ≡ front ++ (middle ++ behind)
  pub front_long : length front ≡ before
  pub middle_long : length middle ≡ taken

module _ (c : StatementChange) (ws : List (List ℕ)) (p : InParts ws c.before c.taken) where
  changed_is : (put : List (List ℕ)) → changed_words c put ws ≡ p.front ++ (put ++ p.behind)
  changed_is put =
      let front : take c.before ws ≡ p.front = ap (take c.before) p.all_are ∙ take_at p.front (p.middle ++ p.behind) c.before p.front_long in
      let long : length (p.front ++ p.middle) ≡ c.before + c.taken = omega (arith, length-append p.front p.middle, p.front_long, p.middle_long) in
      let rest : drop (c.before + c.taken) ws ≡ p.behind =
      ap (drop (c.before + c.taken)) (p.all_are ∙ sym (append_assoc p.front p.middle p.behind)) ∙ drop_at (p.front ++ p.middle) p.behind (c.before + c.taken) long in
      ap₂ (λ (us vs : List (List ℕ)). us ++ (put ++ vs)) front rest

  parts_within : c.before + c.taken ≤ length ws
  parts_within =
      let all : length ws ≡ length (p.front ++ (p.middle ++ p.behind)) = ap length p.all_are in
      omega (arith, all, length-append p.front (p.middle ++ p.behind), length-append p.middle p.behind, p.front_long, p.middle_long)

-- what is put into the entry of a net, and what it then says
module _ {C : Type 0} (form : Form C) (name : List ℕ) (make : List Terminal → List C → Entry) (makes : MakesEntries form name make) (ps : List Token) (ts us : List Terminal) (cs ds : List C) (text : IsNetText form name (words ps) ts cs) where
  pub changes_entry : (c : StatementChange) (put : List Token) (p : InParts (words ps) c.before c.taken) → AreTokens c.put put → (c.taken ≡ 0 → BeginsWhite c.put) → c.said ≡ entry (make us ds) ∷ []
      → IsNetText form name (p.front ++ (words put ++ p.behind)) us ds → IsChange ps (entry (make ts cs)) c
  changes_entry c put p tokens apart said new =
      let long : length (words ps) ≡ length ps = length-map ps (λ (p : Token). p.bytes) in
      let spelled : length (words ps) ≡ _ = ap length text.spelled in
      let ws = changed_words c (words put) (words ps) in
      let now : IsNetText form name ws us ds = subst (λ (vs : List (List ℕ)). IsNetText form name vs us ds) (sym (changed_is c (words ps) p (words put))) new in
      record {
        put = put;
        tokens = tokens;
        some = omega (arith, long, spelled);
        within = let within = parts_within c (words ps) p in omega (arith, within, long);
        apart = λ none some. apart none;
        says = λ m after reads.
            subst (λ (recs : List Record). AreSaid m ws recs after) (sym said) (written_instead ps (make ts cs) (make us ds) ws (makes.section us ts ds cs) (makes.write ws us ds now) m after reads);
      }
