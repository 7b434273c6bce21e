-- In tokens that read, no two records have a key in common.
use Rattle.std.proofs.Common.{◌≡◌, ℕ, Bool, true, false, ◌||◌, List, [], ◌∷◌, map, None, Ok, refl, sym, ap, ap₂, ◌∙◌, ⊎_elim}
use Rattle.std.specs.List.{All}
use Rattle.std.specs.Str.{bytes_eq}
use Rattle.std.proofs.lemmas.Bool.{cases_Bool as cases, and_parts, and_from, or_parts}
use Rattle.std.proofs.lemmas.List.Elements.{All-nil, All-cons}
use Rattle.std.proofs.lemmas.Slice.Eq.{bytes_eq-Decides}
use Rattle.statement_model.specs.Tokens.{Token}
use Rattle.statement_model.specs.Folds.{all_from}
use Rattle.statement_model.specs.Grammar.{Key, Grammar}
use Rattle.statement_model.specs.Reading.{same_words, is_among, repeats, with_key, read_one}
use Rattle.edit_laws.proofs.SameWords.{reads_one}
use Rattle.edit_laws.proofs.Stands.{first_read, none_read, Split, seconds}

pub same_key : (vs ws : Key) → same_words vs ws ≡ true → vs ≡ ws
same_key [] [] e = refl
same_key [] (w ∷ ws) e = absurd (cc)
same_key (v ∷ vs) [] e = absurd (cc)
same_key (v ∷ vs) (w ∷ ws) e =
    let both = and_parts (bytes_eq v w) (same_words vs ws) e in
    ap₂ (λ (u : List ℕ) (us : Key). u ∷ us) ((bytes_eq-Decides v w).0 both.0) (same_key vs ws both.1)

pub key_itself : (ws : Key) → same_words ws ws ≡ true
key_itself [] = refl
key_itself (w ∷ ws) = and_from (bytes_eq w w) (same_words ws ws) ((bytes_eq-Decides w w).1 refl) (key_itself ws)

-- a key that isn't among some keys and one more
apart_more : (w : List ℕ) (ws key : Key) (seen : List Key) → is_among (with_key key seen) (w ∷ ws) ≡ false → (is_among seen (w ∷ ws) ≡ false) × (same_words (w ∷ ws) key ≡ false)
apart_more w ws [] seen e = (e, refl)
apart_more w ws (v ∷ vs) seen e = let both = or_parts (same_words (w ∷ ws) (v ∷ vs)) (is_among seen (w ∷ ws)) e in (both.1, both.0)

or_true : (a b : Bool) → b ≡ true → (a || b) ≡ true
or_true true b e = refl
or_true false b e = e

among_more : (word key : Key) (seen : List Key) → is_among seen word ≡ true → is_among (with_key key seen) word ≡ true
among_more word [] seen e = e
among_more word (v ∷ vs) seen e = or_true (same_words word (v ∷ vs)) (is_among seen word) e

-- what repeats nothing is none of the keys seen
pub fresh_is_apart : (w : List ℕ) (ws : Key) (seen : List Key) → repeats seen (w ∷ ws) ≡ None → is_among seen (w ∷ ws) ≡ false
fresh_is_apart w ws seen fresh = ⊎_elim
    (λ (is : is_among seen (w ∷ ws) ≡ true). let h = rw is at fresh in absurd (cc))
    (λ (none : is_among seen (w ∷ ws) ≡ false). none)
    (cases (is_among seen (w ∷ ws)))

fresh_differs : (w : List ℕ) (ws key : Key) (seen : List Key) → is_among seen (w ∷ ws) ≡ true → repeats seen key ≡ None → same_words (w ∷ ws) key ≡ false
fresh_differs w ws [] seen among fresh = refl
fresh_differs w ws (v ∷ vs) seen among fresh = ⊎_elim
    (λ (is : same_words (w ∷ ws) (v ∷ vs) ≡ true).
    let also : is_among seen (v ∷ vs) ≡ true = ap (is_among seen) (sym (same_key (w ∷ ws) (v ∷ vs) is)) ∙ among in
    let none = fresh_is_apart v vs seen fresh in
    absurd (cc))
    (λ (none : same_words (w ∷ ws) (v ∷ vs) ≡ false). none)
    (cases (same_words (w ∷ ws) (v ∷ vs)))

module _ {M R : Type 0} (g : Grammar M R) (w : List ℕ) (ws : Key) where
  -- this key is none of these records'
  abbrev pub Apart : List R → Type 0
  Apart recs = All (λ r. same_words (w ∷ ws) (g.key r) ≡ false) recs

  -- records before a place where the key wasn't seen
  before_it : (state : M × List Key) (ss : List (List Token)) (x : List R × (M × List Key)) → all_from (read_one g) state ss ≡ Ok x → is_among x.1.1 (w ∷ ws) ≡ false → (is_among state.1 (w ∷ ws) ≡ false) × Apart x.0
  before_it state [] x e unseen = let same = none_read g state x e in rw same (rw same at unseen, All-nil (λ r. same_words (w ∷ ws) (g.key r) ≡ false))
  before_it state (s ∷ ss) x e unseen =
      let f = first_read g state s ss x e in
      let is = f.is in
      let later = before_it f.one.1 ss f.others f.others_read (rw is at unseen) in
      let one = reads_one g state s f.one f.one_read in
      let now = apart_more w ws (g.key f.one.0) state.1 (ap (λ (seen : List Key). is_among seen (w ∷ ws)) one.seen ∙ later.0) in
      rw is (now.0, All-cons (λ r. same_words (w ∷ ws) (g.key r) ≡ false) f.one.0 f.others.0 now.1 later.1)

  -- records after a place where it was
  after_it : (state : M × List Key) (ss : List (List Token)) (x : List R × (M × List Key)) → all_from (read_one g) state ss ≡ Ok x → is_among state.1 (w ∷ ws) ≡ true → Apart x.0
  after_it state [] x e among = let same = none_read g state x e in rw same (All-nil (λ r. same_words (w ∷ ws) (g.key r) ≡ false))
  after_it state (s ∷ ss) x e among =
      let f = first_read g state s ss x e in
      let is = f.is in
      let one = reads_one g state s f.one f.one_read in
      let still = among_more (w ∷ ws) (g.key f.one.0) state.1 among in
      let later = after_it f.one.1 ss f.others f.others_read (ap (λ (seen : List Key). is_among seen (w ∷ ws)) (sym one.seen) ∙ still) in
      rw is (All-cons (λ r. same_words (w ∷ ws) (g.key r) ≡ false) f.one.0 f.others.0 (fresh_differs w ws (g.key f.one.0) state.1 among one.fresh) later)

  -- a record with the key is alone with it
  pub stands_once : (state : M × List Key) (ss : List (List Token)) (x : List R × (M × List Key)) (first : List (List Token × R)) (s : List Token) (rec : R) (others : List (List Token × R)) → Split g state ss x first s rec others
      → g.key rec ≡ w ∷ ws → Apart (seconds first) × Apart (seconds others)
  stands_once state ss x first s rec others p key =
      let one = reads_one g p.at s (rec, p.after) p.one_read in
      let fresh : repeats p.at.1 (w ∷ ws) ≡ None = ap (repeats p.at.1) (sym key) ∙ one.fresh in
      let seen : (w ∷ ws) ∷ p.at.1 ≡ p.after.1 = ap (λ (k : Key). with_key k p.at.1) (sym key) ∙ one.seen in
      let among : is_among p.after.1 (w ∷ ws) ≡ true = ap (λ (keys : List Key). is_among keys (w ∷ ws)) (sym seen) ∙ ap (λ (b : Bool). b || is_among p.at.1 (w ∷ ws)) (key_itself (w ∷ ws)) in
      ((before_it state (map (λ x. x.0) first) (seconds first, p.at) p.first_read (fresh_is_apart w ws p.at.1 fresh)).1, after_it p.after (map (λ x. x.0) others) (seconds others, x.1) p.others_read among)
