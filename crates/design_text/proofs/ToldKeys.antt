-- A text of which all statements read does so itself where they have once what a text has once, and UNITS.
use Rattle.std.proofs.Common.{rules, ◌≡◌, ◌||◌, ℕ, Bool, true, false, List, [], ◌∷◌, length, map, None, Ok, IsOk, refl, sym, ap, ◌∙◌, subst, ⊎_elim, arith}
use Rattle.std.specs.Prelude.{codes, nat_lt}
use Rattle.std.specs.List.{zip}
use Rattle.std.proofs.lemmas.Bool.{cases_Bool as cases}
use Rattle.std.proofs.lemmas.List.{length-map}
use Rattle.design_model.specs.declared.TheConstants.{MAX_TEXT}
use Rattle.design_model.specs.declared.identifier.StmtId.{StmtId}
use Rattle.design_model.specs.declared.mode.Mode.TheVariants.{Top}
use Rattle.statement_model.specs.Grammar.{Key}
use Rattle.statement_model.specs.Reading.{is_among, read_text, same_words, with_key}
use Rattle.statement_model.specs.Tokens.{Token, tokens}
use Rattle.def_grammar.specs.Records.{Record, def, key_of, read_def, without_units}
use Rattle.piece_laws.specs.KeyLaws.{FreshIsOnce, KeysDecide, StandOnce, keys_after}
use Rattle.edit_laws.proofs.Keys.{key_itself, same_key}
use Rattle.text_pieces.specs.Content.{Content, read_keyless, text_of}
use Rattle.text_pieces.specs.Lent.{numbered_records}
use Rattle.text_pieces.specs.Statements.{statements_of}
use Rattle.text_pieces.specs.Tables.{ids_of}
use Rattle.design_tables.specs.Prepared.{AreKeyed, keys_of}

more_seen : (word key : Key) (seen : List Key) → is_among seen word ≡ true → is_among (with_key key seen) word ≡ true
more_seen word [] seen h = h
more_seen word (w ∷ ws) seen h = by (same_words word (w ∷ ws))
  where
    by : (b : Bool) → (b || is_among seen word) ≡ true
    by true = refl
    by false = h

still_seen : (word : Key) (keys seen : List Key) → is_among seen word ≡ true → is_among (keys_after seen keys) word ≡ true
still_seen word [] seen h = h
still_seen word (key ∷ keys) seen h = still_seen word keys (with_key key seen) (more_seen word key seen h)

-- a key among those that are read was seen after them
is_seen : (w : List ℕ) (ws : Key) (keys seen : List Key) → is_among keys (w ∷ ws) ≡ true → is_among (keys_after seen keys) (w ∷ ws) ≡ true
is_seen w ws [] seen h = absurd (cc)
is_seen w ws (key ∷ keys) seen h = by (same_words (w ∷ ws) key) refl h (λ k. is_seen w ws keys (with_key key seen) k)
  where
    by : (b : Bool) → same_words (w ∷ ws) key ≡ b → (b || is_among keys (w ∷ ws)) ≡ true → (is_among keys (w ∷ ws) ≡ true → is_among (keys_after (with_key key seen) keys) (w ∷ ws) ≡ true) → is_among (keys_after (with_key key seen) keys) (w ∷ ws) ≡ true
    by true same h later =
        let is : key ≡ w ∷ ws = sym (same_key (w ∷ ws) key same) in
        let now : is_among (with_key key seen) (w ∷ ws) ≡ true = ap (λ (k : Key). is_among (with_key k seen) (w ∷ ws)) is ∙ ap (λ (b : Bool). b || is_among seen (w ∷ ws)) (key_itself (w ∷ ws)) in
        still_seen (w ∷ ws) keys (with_key key seen) now
    by false other h later = later h

none_lacks : (seen : List Key) → is_among seen (codes "UNITS" ∷ []) ≡ true → without_units seen ≡ None
none_lacks seen is = rw is refl

reads_back : KeysDecide def → FreshIsOnce → (text : List ℕ) (recs : List Record) → read_keyless text ≡ Ok recs → StandOnce (map key_of recs) → is_among (map key_of recs) (codes "UNITS" ∷ []) ≡ true → read_def text ≡ Ok recs
unfolding read_text
reads_back decide fresh text recs reads once units = ⊎_elim
    (λ (long : nat_lt MAX_TEXT (length text) ≡ true). let e = rw long at reads in absurd (cc))
    (λ (short : nat_lt MAX_TEXT (length text) ≡ false).
    rw short (decide Top [] (tokens text) recs (rw short at reads) ((fresh (map key_of recs)).1 once) (none_lacks (keys_after [] (map key_of recs)) (is_seen (codes "UNITS") [] (map key_of recs) [] units))))
    (cases (nat_lt MAX_TEXT (length text)))

zip_keys : (ids : List StmtId) (recs : List Record) → length ids ≡ length recs → keys_of (zip ids recs) ≡ map key_of recs
zip_keys [] [] many = refl
zip_keys [] (r ∷ rs) many = absurd (omega (arith, many))
zip_keys (i ∷ is) [] many = absurd (omega (arith, many))
zip_keys (i ∷ is) (r ∷ rs) many = ap (λ (l : List Key). key_of r ∷ l) (zip_keys is rs (omega (arith, many)))

pub keyed_reads : KeysDecide def → FreshIsOnce → (c : Content) → read_keyless (text_of c) ≡ Ok (map (λ x. x.1) (statements_of (text_of c))) → length (ids_of c.table) ≡ length (statements_of (text_of c)) → AreKeyed (numbered_records c) → IsOk (read_def (text_of c))
keyed_reads decide fresh c reads many keyed =
    let recs = map (λ (x : List Token × Record). x.1) (statements_of (text_of c)) in
    let same : keys_of (numbered_records c) ≡ map key_of recs = zip_keys (ids_of c.table) recs (many ∙ sym (length-map (statements_of (text_of c)) (λ (x : List Token × Record). x.1))) in
    let once = subst StandOnce same keyed.once in
    let units = subst (λ (keys : List Key). is_among keys (codes "UNITS" ∷ []) ≡ true) same keyed.units in
    rw (reads_back decide fresh (text_of c) recs reads once units) (search rules)
