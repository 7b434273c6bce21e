-- A text with changes of statements made reads as the records that they make.
use Rattle.std.proofs.Common.{◌≡◌, ℕ, List, [], ◌∷◌, ◌++◌, zip, Result, Ok, Err, refl, sym, ap, subst, ◌∙◌}
use Rattle.design_model.specs.declared.fault.Fault.{Fault}
use Rattle.design_model.specs.declared.mode.Mode.{Mode}
use Rattle.statement_model.specs.Tokens.{Token, Lexed, lex, left_from}
use Rattle.statement_model.specs.Tokens.Open.{between}
use Rattle.statement_model.specs.Boundaries.{words, statements}
use Rattle.statement_model.specs.Cuts.{cut_from}
use Rattle.statement_model.specs.Folds.{all_from}
use Rattle.statement_model.specs.Grammar.{Key}
use Rattle.statement_model.specs.Reading.{read_one, at_last, read_from}
use Rattle.def_grammar.specs.Records.{Record, def_ending, def}
use Rattle.edit_rules.specs.Plans.{StatementChange, cuts_for}
use Rattle.splicing_laws.specs.SplicingLaws.{HasWords, TokensBegin, TokensEnd, TokensArePut}
use Rattle.splicing_laws.proofs.SplicingWords.{HasWordsAt, at_place}
use Rattle.edit_laws.specs.StatementLaws.{changed_words, forms, AreSaid, Make, StatementsAreChanged, ChangesStandInOrder, SameKeysAreOnce}
use Rattle.edit_laws.proofs.ChangedTokens.{IsPut, Standing, new_words, changes_made}
use Rattle.edit_laws.proofs.CutStatements.{parted}
use Rattle.edit_laws.proofs.SaidStatements.{pair_of, to_reading, said_append, same_keys_once, whole_forms, said_to_end}
use Rattle.edit_laws.proofs.SameWords.{form_reads, reads_one, HasForm, same_reading}
use Rattle.edit_laws.proofs.Stands.{firsts, seconds, zipped, split, none_read, first_read, whole_text}

-- tokens that read to their end have no fault
last_is : (state : Mode × List Key) (ps : List Token) (end : Result ℕ Fault) (recs : List Record) → at_last def state ps end ≡ Ok recs → (n : ℕ) × (end ≡ Ok n)
last_is state ps (Ok n) recs e = (n, refl)
last_is state ps (Err f) recs e = absurd (cc)

pub end_of_reading : (state : Mode × List Key) (l : Lexed) (recs : List Record) → read_from def state l ≡ Ok recs → (n : ℕ) × (l.end ≡ Ok n)
end_of_reading state l recs reads =
    let whole = whole_text def def_ending (λ m. refl) state l recs reads in
    last_is whole.end [] l.end [] whole.ended

zip_parts : {A B : Type 0} (xs : List (A × B)) → zip (firsts xs) (seconds xs) ≡ xs
zip_parts [] = refl
zip_parts {A = A} {B = B} (x ∷ xs) = ap (λ (l : List (A × B)). x ∷ l) (zip_parts xs)

-- by forms alone no keys are seen
no_keys : (m : Mode) (ss : List (List Token)) (x : List Record × (Mode × List Key)) → all_from (read_one forms) (m, []) ss ≡ Ok x → x.1 ≡ (x.1.0, [])
no_keys m [] x e = let same = none_read forms (m, []) x e in rw same refl
no_keys m (s ∷ ss) x e =
    let f = first_read forms (m, []) s ss x e in
    let one = reads_one forms (m, []) s f.one f.one_read in
    let begins : f.one.1 ≡ (f.one.1.0, []) = pair_of f.one.1 f.one.1.0 [] refl (sym one.seen) in
    let rest = ap (λ (k : Mode × List Key). all_from (read_one forms) k ss) (sym begins) ∙ f.others_read in
    ap (λ (y : List Record × (Mode × List Key)). y.1) f.is ∙ (no_keys f.one.1.0 ss f.others rest ∙ ap (λ (k : Mode). (k, [])) (sym (ap (λ (y : List Record × (Mode × List Key)). y.1.0) f.is)))

-- changes that stand in tokens, whose words with them made are said of new records
record Said (m after : Mode) (pieces : List Token) (xs : List (List Token × StatementChange)) (new : List Record) : Type 0 where
  standing : Standing pieces xs
  said : AreSaid m (new_words pieces xs standing) new after

-- the words of statements that are read are said of their records
are_said : (m after : Mode) (ps : List Token) (ss : List (List Token)) (recs : List Record) → statements def_ending [] ps ≡ (ss, []) → all_from (read_one forms) (m, []) ss ≡ Ok (recs, (after, [])) → AreSaid m (words ps) recs after
are_said m after ps ss recs cut read = λ qs e.
    same_reading forms (m, []) (after, []) ps qs recs (sym e) (to_reading m after ps recs (record { each = ss; cut = cut; read = read }))

changes_said : (xs : List (List Token × StatementChange)) (m after : Mode) (pieces : List Token) (ss : List (List Token)) (recs new : List Record) → statements def_ending [] pieces ≡ (ss, [])
    → all_from (read_one forms) (m, []) ss ≡ Ok (recs, (after, [])) → Make (zip ss recs) xs new → Said m after pieces xs new
changes_said [] m after pieces ss recs new cut read made =
    let x : List Record × (Mode × List Key) = (recs, (after, [])) in
    let same : new ≡ recs = made ∙ (zipped forms (m, []) ss x read).1 in
    record { standing = tt; said = subst (λ (rs : List Record). AreSaid m (words pieces) rs after) (sym same) (are_said m after pieces ss recs cut read) }
changes_said (y ∷ xs) m after pieces ss recs new cut read made =
    let ps = y.0 in
    let c = y.1 in
    let rec = made.0 in
    let s = made.1 in
    let change = made.2 in
    let x : List Record × (Mode × List Key) = (recs, (after, [])) in
    let p = split forms (m, []) ss x s.first ps rec s.others read s.all_are in
    let parts = parted def_ending pieces (firsts s.first) ps (firsts s.others) (cut ∙ ap (λ (l : List (List Token)). (l, [])) p.statements) in
    let first_state : p.at ≡ (p.at.0, []) = no_keys m (firsts s.first) (seconds s.first, p.at) p.first_read in
    let one = reads_one forms p.at ps (rec, p.after) p.one_read in
    let next_state : p.after ≡ (p.after.0, []) = pair_of p.after p.after.0 [] refl (sym one.seen ∙ ap (λ (k : Mode × List Key). k.1) first_state) in
    let form : HasForm def p.at.0 ps rec p.after.0 = record { form = one.form.form; next = one.form.next } in
    let says = change.says p.at.0 p.after.0 (form_reads def p.at.0 ps rec p.after.0 form) in
    let first = are_said m p.at.0 parts.front (firsts s.first) (seconds s.first) parts.first (p.first_read ∙ ap (λ (k : Mode × List Key). Ok (seconds s.first, k)) first_state) in
    let others_read = ap (λ (k : Mode × List Key). all_from (read_one forms) k (firsts s.others)) (sym next_state) ∙ p.others_read in
    let later = changes_said xs p.after.0 after parts.behind (firsts s.others) (seconds s.others) made.3 parts.others others_read (subst (λ (l : List (List Token × Record)). Make l xs made.3) (sym (zip_parts s.others)) made.4) in
    let ws = changed_words c (words change.put) (words ps) in
    let put : IsPut ps c change.put = record { tokens = change.tokens; some = change.some; within = change.within; apart = change.apart } in
    record {
      standing = (parts.front, parts.behind, change.put, parts.pieces, put, later.standing);
      said = subst (λ (rs : List Record). AreSaid m (words parts.front ++ (ws ++ new_words parts.behind xs later.standing)) rs after) (sym made.5)
          (said_append m p.at.0 after (words parts.front) (ws ++ new_words parts.behind xs later.standing) (seconds s.first) (c.said ++ made.3) first
          (said_append p.at.0 p.after.0 after ws (new_words parts.behind xs later.standing) c.said made.3 says later.said));
    }

-- what is left at a place, by its words
at_words : (at : ℕ) (text : List ℕ) (ws : List (List ℕ)) → HasWords text ws → HasWordsAt at text ws
at_words at text ws has = at_place text ws at has

module _ (begin_so : TokensBegin) (end_so : TokensEnd) (put_so : TokensArePut) where
  pub statements_are_changed : StatementsAreChanged
  statements_are_changed text from m seen recs new changes within reads made once =
      let l = left_from text from in
      let w = whole_forms m seen l recs reads in
      let ends = end_of_reading (m, seen) l recs reads in
      let s = changes_said changes m w.after l.pieces (statements def_ending [] l.pieces).0 recs new w.cut w.read made in
      let is : l ≡ record { pieces = l.pieces; end = Ok ends.0 } = ap (λ (r : Result ℕ Fault). record { pieces = l.pieces; end = r }) ends.1 in
      let all = changes_made begin_so end_so put_so text changes from ends.0 [] l.pieces within is s.standing in
      let here = at_words from (cut_from from (cuts_for text changes) text) (new_words l.pieces changes s.standing) all.has in
      said_to_end m w.after seen (lex from between (cut_from from (cuts_for text changes) text)) _ (new_words l.pieces changes s.standing) new s.said w.may once here.words here.end

  pub changes_stand_in_order : ChangesStandInOrder
  changes_stand_in_order text from m seen recs new changes within reads made =
      let l = left_from text from in
      let w = whole_forms m seen l recs reads in
      let ends = end_of_reading (m, seen) l recs reads in
      let s = changes_said changes m w.after l.pieces (statements def_ending [] l.pieces).0 recs new w.cut w.read made in
      let is : l ≡ record { pieces = l.pieces; end = Ok ends.0 } = ap (λ (r : Result ℕ Fault). record { pieces = l.pieces; end = r }) ends.1 in
      (changes_made begin_so end_so put_so text changes from ends.0 [] l.pieces within is s.standing).order

pub same_keys_are_once : SameKeysAreOnce
same_keys_are_once text from m seen recs new reads same = same_keys_once seen recs new same (whole_forms m seen (left_from text from) recs reads).once
