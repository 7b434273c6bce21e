-- A text that reads without its keys reads exactly where what it has once stands once, and UNITS at all.
use Rattle.std.proofs.Common.{◌≡◌, ℕ, Bool, true, false, ◌||◌, List, [], ◌∷◌, map, None, Ok, refl, sym, ap, ◌∙◌, ⊎_elim, codes}
use Rattle.std.proofs.lemmas.Bool.{cases_Bool as cases}
use Rattle.design_model.specs.declared.identifier.StmtId.{StmtId}
use Rattle.design_model.specs.declared.mode.Mode.TheVariants.{Top}
use Rattle.statement_model.specs.Grammar.{Key}
use Rattle.statement_model.specs.Reading.{is_among, read_text, same_words}
use Rattle.statement_model.specs.Tokens.{tokens}
use Rattle.def_grammar.specs.Records.{Record, def, key_of, read_def}
use Rattle.edit_rules.specs.Plans.{is_long}
use Rattle.piece_laws.specs.KeyLaws.{FreshIsOnce, KeysAreApart, KeysDecide, keys_after}
use Rattle.text_pieces.specs.Content.{read_keyless}
use Rattle.design_tables.specs.Prepared.{AreKeyed, keys_of}
use Rattle.edit_laws.proofs.PlanTexts.{tokens_read}

abbrev units : Key
units = codes "UNITS" ∷ []

regroup : (a b c : Bool) → (b || (a || c)) ≡ ((a || b) || c)
regroup true true c = refl
regroup true false c = refl
regroup false true c = refl
regroup false false c = refl

-- a key that is among others is among all that were seen after them
among_after : (u : List ℕ) (us : Key) (seen keys : List Key) → is_among (keys_after seen keys) (u ∷ us) ≡ (is_among keys (u ∷ us) || is_among seen (u ∷ us))
among_after u us seen [] = refl
among_after u us seen ([] ∷ keys) = among_after u us seen keys
among_after u us seen ((w ∷ ws) ∷ keys) =
    among_after u us ((w ∷ ws) ∷ seen) keys ∙ regroup (same_words (u ∷ us) (w ∷ ws)) (is_among keys (u ∷ us)) (is_among seen (u ∷ us))

or_none : (a : Bool) → (a || false) ≡ a
or_none true = refl
or_none false = refl

all_seen : (keys : List Key) → is_among (keys_after [] keys) units ≡ is_among keys units
all_seen keys = among_after (codes "UNITS") [] [] keys ∙ or_none (is_among keys units)

lacks_none : (keys : List Key) → is_among keys units ≡ true → def.lacks (keys_after [] keys) ≡ None
lacks_none keys there = rw (all_seen keys ∙ there) refl

has_units : (keys : List Key) → def.lacks (keys_after [] keys) ≡ None → is_among keys units ≡ true
has_units keys none = ⊎_elim
    (λ (is : is_among keys units ≡ true). is)
    (λ (no : is_among keys units ≡ false). let e = rw (all_seen keys ∙ no) at none in absurd (cc))
    (cases (is_among keys units))

keys_map : (xs : List (StmtId × Record)) → keys_of xs ≡ map key_of (map (λ x. x.1) xs)
keys_map [] = refl
keys_map (x ∷ xs) = ap (λ (l : List Key). key_of x.1 ∷ l) (keys_map xs)

abbrev records : List (StmtId × Record) → List Record
records xs = map (λ x. x.1) xs

module _ (text : List ℕ) (xs : List (StmtId × Record)) (keyless : read_keyless text ≡ Ok (records xs)) where
  pub keyed_reads : KeysDecide def → FreshIsOnce → AreKeyed xs → read_def text ≡ Ok (records xs)
  unfolding read_text
  keyed_reads decide once keyed = ⊎_elim
      (λ (long : is_long text ≡ true). let e = rw long at keyless in absurd (cc))
      (λ (short : is_long text ≡ false).
      let keys = map key_of (records xs) in
      let fresh = (once keys).1 (λ key some. rw (← keys_map xs) (keyed.once key some)) in
      let lacks = lacks_none keys (rw (← keys_map xs) keyed.units) in
      let read = rw short at keyless in
      rw short (decide Top [] (tokens text) (records xs) read fresh lacks))
      (cases (is_long text))

  pub reads_keyed : KeysAreApart def → FreshIsOnce → (design : List Record) → read_def text ≡ Ok design → AreKeyed xs
  unfolding read_text
  reads_keyed apart once design reads = ⊎_elim
      (λ (long : is_long text ≡ true). let e = rw long at keyless in absurd (cc))
      (λ (short : is_long text ≡ false).
      let a = apart Top [] (tokens text) design (tokens_read text design reads) in
      let both = sym (rw short at keyless) ∙ a.0 in
      let same : records xs ≡ design = cc in
      let is : keys_of xs ≡ map key_of design = keys_map xs ∙ ap (map key_of) same in
      record {
        once = rw is ((once (map key_of design)).0 a.1);
        units = rw is (has_units (map key_of design) a.2);
      })
      (cases (is_long text))
