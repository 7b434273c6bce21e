-- Words that are statements in their forms, and the keys of their records.
use Rattle.std.proofs.Common.{◌≡◌, ℕ, true, false, List, [], ◌∷◌, ◌++◌, map, Option, None, Some, Result, Ok, Err, refl, sym, ap, ap₂, subst, ◌∙◌, ⊎_elim}
use Rattle.std.proofs.lemmas.Bool.{cases_Bool as cases}
use Rattle.design_model.specs.declared.fault.Fault.{Fault}
use Rattle.design_model.specs.declared.fault.FaultCode.{FaultCode}
use Rattle.design_model.specs.declared.mode.Mode.{Mode}
use Rattle.statement_model.specs.Tokens.{Token, Lexed}
use Rattle.statement_model.specs.Boundaries.{words, statements}
use Rattle.statement_model.specs.Folds.{◌>>◌, all_from}
use Rattle.statement_model.specs.Grammar.{Key}
use Rattle.statement_model.specs.Reading.{repeats, with_key, read_one, ended, at_last, read_from}
use Rattle.def_grammar.specs.Records.{Record, def_ending, key_of, without_units, is_after, def}
use Rattle.statement_laws.specs.ReadingLaws.{ReadsAs}
use Rattle.statement_laws.proofs.Folds.{folds_join}
use Rattle.statement_laws.proofs.Reading.{statements_by_steps}
use Rattle.statement_laws.proofs.StatementLists.{statements_join}
use Rattle.edit_laws.specs.StatementLaws.{forms, AreSaid, AreOnce}
use Rattle.edit_laws.proofs.MappedParts.{parts_of}
use Rattle.edit_laws.proofs.StandingStatements.{rest_reads}
use Rattle.edit_laws.proofs.SameWords.{HasForm, has_read, then_goes, reads_one, one_reads}
use Rattle.edit_laws.proofs.Stands.{first_read, none_read, whole_text, cut_reads}

-- records and the state after them
abbrev Read : Type 0
Read = List Record × (Mode × List Key)

abbrev Statements : Type 0
Statements = List Record × (Mode × List Key) × List Token

-- tokens that are whole statements of these records in their forms
pub record AreStatements (m : Mode) (ps : List Token) (recs : List Record) (after : Mode) : Type 0 where
  pub each : List (List Token)
  pub cut : statements def_ending [] ps ≡ (each, [])
  pub read : all_from (read_one forms) (m, []) each ≡ Ok (recs, (after, []))

-- as they are read
pub to_reading : (m after : Mode) (ps : List Token) (recs : List Record) → AreStatements m ps recs after → ReadsAs forms (m, []) ps recs (after, [])
to_reading m after ps recs are = cut_reads forms def_ending (λ m. refl) (m, []) (after, []) ps are.each recs are.cut are.read

pub pair_of : {A B : Type 0} (x : A × B) (a : A) (b : B) → x.0 ≡ a → x.1 ≡ b → x ≡ (a, b)
pair_of {A = A} {B = B} x a b e f = ap₂ (λ (c : A) (d : B). (c, d)) e f

pub from_reading : (m after : Mode) (ps : List Token) (recs : List Record) → ReadsAs forms (m, []) ps recs (after, []) → AreStatements m ps recs after
from_reading m after ps recs reads =
    let s = statements def_ending [] ps in
    let with_left : Read → Result Statements Fault = λ x. Ok (x.0, x.1, s.1) in
    let wanted : Statements = (recs, (after, []), []) in
    let all = has_read (all_from (read_one forms) (m, []) s.0) with_left wanted (sym (statements_by_steps forms def_ending (λ m. refl) (m, []) [] ps) ∙ reads) in
    let found : Statements = (all.0.0, all.0.1, s.1) in
    let same : found ≡ wanted = ok_is found wanted all.2 in
    let recs_are : all.0.0 ≡ recs = ap (λ (x : Statements). x.0) same in
    let state_is : all.0.1 ≡ (after, []) = ap (λ (x : Statements). x.1) same in
    let none : s.1 ≡ [] = ap (λ (x : Statements). x.2) same in
    record {
      each = s.0;
      cut = pair_of s s.0 [] refl none;
      read = all.1 ∙ ap (λ (x : Read). Ok x) (pair_of all.0 recs (after, []) recs_are state_is);
    }
  where
    ok_is : (x y : Statements) → ◌≡◌ {A = Result Statements Fault} (Ok x) (Ok y) → x ≡ y
    ok_is x y e = cc

-- statements and then others
statements_append : (m middle after : Mode) (ps qs : List Token) (recs others : List Record) → AreStatements m ps recs middle → AreStatements middle qs others after → AreStatements m (ps ++ qs) (recs ++ others) after
statements_append m middle after ps qs recs others a b =
    let x : Read = (recs, (middle, [])) in
    let y : Read = (others, (after, [])) in
    record {
      each = a.each ++ b.each;
      cut = statements_join def_ending ps qs []
          ∙ (ap (λ (s : List (List Token) × List Token). (s.0 ++ (statements def_ending s.1 qs).0, (statements def_ending s.1 qs).1)) a.cut
          ∙ ap (λ (s : List (List Token) × List Token). (a.each ++ s.0, s.1)) b.cut);
      read = folds_join (read_one forms) (m, []) a.each b.each
          ∙ (then_goes (all_from (read_one forms) (m, []) a.each) (λ z. (all_from (read_one forms) z.1 b.each >> λ w. Ok (z.0 ++ w.0, w.1))) x a.read
          ∙ then_goes (all_from (read_one forms) (middle, []) b.each) (λ w. Ok (recs ++ w.0, w.1)) y b.read);
    }

pub said_append : (m middle after : Mode) (vs ws : List (List ℕ)) (recs others : List Record) → AreSaid m vs recs middle → AreSaid middle ws others after → AreSaid m (vs ++ ws) (recs ++ others) after
said_append m middle after vs ws recs others a b qs e =
    let parts = parts_of (λ (p : Token). p.bytes) qs vs ws e in
    let first = from_reading m middle parts.front recs (a parts.front parts.front_is) in
    let rest = from_reading middle after parts.rest others (b parts.rest parts.rest_is) in
    subst (λ (ps : List Token). ReadsAs forms (m, []) ps (recs ++ others) (after, [])) (sym parts.is)
    (to_reading m after (parts.front ++ parts.rest) (recs ++ others) (statements_append m middle after parts.front parts.rest recs others first rest))

-- the keys of records that stand after others, with those of all in the end
abbrev pub Once : List Key → List Record → List Key → Type 0
Once seen [] last = seen ≡ last
Once seen (r ∷ rs) last = (repeats seen (key_of r) ≡ None) × Once (with_key (key_of r) seen) rs last

pub once_last : (seen : List Key) (recs : List Record) → AreOnce seen recs → (last : List Key) × Once seen recs last × (without_units last ≡ None)
once_last seen [] are = (seen, refl, are)
once_last seen (r ∷ rs) are = let later = once_last (with_key (key_of r) seen) rs are.1 in (later.0, (are.0, later.1), later.2)

pub are_once : (seen last : List Key) (recs : List Record) → Once seen recs last → without_units last ≡ None → AreOnce seen recs
are_once seen last [] same lacks = ap without_units same ∙ lacks
are_once seen last (r ∷ rs) once lacks = (once.0, are_once (with_key (key_of r) seen) last rs once.1 lacks)

pub same_keys_once : (seen : List Key) (recs new : List Record) → map key_of new ≡ map key_of recs → AreOnce seen recs → AreOnce seen new
same_keys_once seen [] [] e are = are
same_keys_once seen [] (n ∷ new) e are = absurd (cc)
same_keys_once seen (r ∷ recs) [] e are = absurd (cc)
same_keys_once seen (r ∷ recs) (n ∷ new) e are =
    let here : key_of n ≡ key_of r = cc in
    let rest : map key_of new ≡ map key_of recs = cc in
    (ap (repeats seen) here ∙ are.0, subst (λ (k : Key). AreOnce (with_key k seen) new) (sym here) (same_keys_once (with_key (key_of r) seen) recs new rest are.1))

-- one record, and then those of the rest
abbrev one_more : Record → Read → Result Read Fault
one_more rec y = Ok (rec ∷ y.0, y.1)

-- what reads has its forms, and keys that don't repeat
pub to_forms : (m : Mode) (seen : List Key) (ss : List (List Token)) (x : Read) → all_from (read_one def) (m, seen) ss ≡ Ok x
    → (all_from (read_one forms) (m, []) ss ≡ Ok (x.0, (x.1.0, []))) × Once seen x.0 x.1.1
unfolding all_from
to_forms m seen [] x e =
    let same = none_read def (m, seen) x e in
    rw same (refl, refl)
to_forms m seen (s ∷ ss) x e =
    let f = first_read def (m, seen) s ss x e in
    let one = reads_one def (m, seen) s f.one f.one_read in
    let form : HasForm forms m s f.one.0 f.one.1.0 = record { form = one.form.form; next = one.form.next } in
    let here : read_one forms (m, []) s ≡ Ok (f.one.0, (f.one.1.0, [])) = one_reads forms (m, []) (f.one.1.0, []) s f.one.0 (record { form = form; fresh = refl; seen = refl }) in
    let later = to_forms f.one.1.0 f.one.1.1 ss f.others f.others_read in
    let y : Record × (Mode × List Key) = (f.one.0, (f.one.1.0, [])) in
    let z : Read = (f.others.0, (f.others.1.0, [])) in
    let is = f.is in
    rw is (
      then_goes (read_one forms (m, []) s) (λ one. (all_from (read_one forms) one.1 ss >> one_more one.0)) y here ∙ then_goes (all_from (read_one forms) (f.one.1.0, []) ss) (one_more f.one.0) z later.0,
      (one.fresh, subst (λ (k : List Key). Once k f.others.0 f.others.1.1) (sym one.seen) later.1),
    )

-- and the other way round
pub from_forms : (m after : Mode) (seen last : List Key) (ss : List (List Token)) (recs : List Record) → all_from (read_one forms) (m, []) ss ≡ Ok (recs, (after, [])) → Once seen recs last
    → all_from (read_one def) (m, seen) ss ≡ Ok (recs, (after, last))
unfolding all_from
from_forms m after seen last [] recs e once =
    let x : Read = (recs, (after, [])) in
    let same = none_read forms (m, []) x e in
    let none : recs ≡ [] = ap (λ (y : Read). y.0) same in
    let stays : after ≡ m = ap (λ (y : Read). y.1.0) same in
    let h = rw none at once in
    rw (none, stays) (ap (λ (k : List Key). Ok ([], (m, k))) h)
from_forms m after seen last (s ∷ ss) recs e once =
    let x : Read = (recs, (after, [])) in
    let f = first_read forms (m, []) s ss x e in
    let one = reads_one forms (m, []) s f.one f.one_read in
    let recs_are : recs ≡ f.one.0 ∷ f.others.0 = ap (λ (y : Read). y.0) f.is in
    let state_is : (after, []) ≡ f.others.1 = ap (λ (y : Read). y.1) f.is in
    let keys = subst (λ (rs : List Record). Once seen rs last) recs_are once in
    let form : HasForm def m s f.one.0 f.one.1.0 = record { form = one.form.form; next = one.form.next } in
    let next = with_key (key_of f.one.0) seen in
    let here : read_one def (m, seen) s ≡ Ok (f.one.0, (f.one.1.0, next)) = one_reads def (m, seen) (f.one.1.0, next) s f.one.0 (record { form = form; fresh = keys.0; seen = refl }) in
    let from : Mode × List Key = (f.one.1.0, []) in
    let begins : f.one.1 ≡ from = pair_of f.one.1 f.one.1.0 [] refl (sym one.seen) in
    let rest : all_from (read_one forms) from ss ≡ Ok (f.others.0, (after, [])) =
    ap (λ (k : Mode × List Key). all_from (read_one forms) k ss) (sym begins) ∙ (f.others_read ∙ ap (λ (y : Read). Ok y) (pair_of f.others f.others.0 (after, []) refl (sym state_is))) in
    let later = from_forms f.one.1.0 after next last ss f.others.0 rest keys.1 in
    let y : Record × (Mode × List Key) = (f.one.0, (f.one.1.0, next)) in
    let z : Read = (f.others.0, (after, last)) in
    then_goes (read_one def (m, seen) s) (λ one. (all_from (read_one def) one.1 ss >> one_more one.0)) y here
    ∙ (then_goes (all_from (read_one def) (f.one.1.0, next) ss) (one_more f.one.0) z later ∙ ap (λ (rs : List Record). Ok (rs, (after, last))) (sym recs_are))

-- a text that may end here lacks nothing
pub record MayEnd (state : Mode × List Key) : Type 0 where
  pub may : is_after state.0 ≡ true
  pub lacks : without_units state.1 ≡ None

none_lacks : (state : Mode × List Key) (n : ℕ) (o : Option FaultCode) (recs : List Record) → ended def state n o ≡ Ok recs → o ≡ None
none_lacks state n None recs e = refl
none_lacks state n (Some code) recs e = absurd (cc)

pub may_end : (state : Mode × List Key) (end : Result ℕ Fault) → at_last def state [] end ≡ Ok [] → MayEnd state
may_end state (Err f) e = absurd (cc)
may_end state (Ok n) e = ⊎_elim
    (λ (may : is_after state.0 ≡ true). let h = rw may at e in record { may = may; lacks = none_lacks state n (without_units state.1) [] h })
    (λ (no : is_after state.0 ≡ false). let h = rw no at e in absurd (cc))
    (cases (is_after state.0))

-- tokens that read to their end, by their statements
pub record WholeForms (m : Mode) (seen : List Key) (l : Lexed) (recs : List Record) : Type 0 where
  pub after : Mode
  pub cut : statements def_ending [] l.pieces ≡ ((statements def_ending [] l.pieces).0, [])
  pub read : all_from (read_one forms) (m, []) (statements def_ending [] l.pieces).0 ≡ Ok (recs, (after, []))
  pub may : is_after after ≡ true
  pub once : AreOnce seen recs

pub whole_forms : (m : Mode) (seen : List Key) (l : Lexed) (recs : List Record) → read_from def (m, seen) l ≡ Ok recs → WholeForms m seen l recs
whole_forms m seen l recs reads =
    let w = whole_text def def_ending (λ m. refl) (m, seen) l recs reads in
    let s = statements def_ending [] l.pieces in
    let x : Read = (recs, w.end) in
    let f = to_forms m seen s.0 x w.read in
    let end = may_end w.end l.end w.ended in
    record {
      after = w.end.0;
      cut = pair_of s s.0 [] refl w.none;
      read = f.0;
      may = end.may;
      once = are_once seen w.end.1 recs f.1 end.lacks;
    }

-- words that are said to the end of a text are read so
pub said_to_end : (m after : Mode) (seen : List Key) (l : Lexed) (n : ℕ) (ws : List (List ℕ)) (recs : List Record) → AreSaid m ws recs after → is_after after ≡ true → AreOnce seen recs
    → words l.pieces ≡ ws → l.end ≡ Ok n → read_from def (m, seen) l ≡ Ok recs
said_to_end m after seen l n ws recs said may once e end =
    let are = from_reading m after l.pieces recs (said l.pieces e) in
    let keys = once_last seen recs once in
    let read = from_forms m after seen keys.0 are.each recs are.read keys.1 in
    let lacks = keys.2 in
    let done : at_last def (after, keys.0) [] l.end ≡ Ok [] = rw (end, may, lacks) refl in
    rest_reads def def_ending (λ m. refl) (m, seen) (after, keys.0) l.pieces are.each recs l.end are.cut read done
