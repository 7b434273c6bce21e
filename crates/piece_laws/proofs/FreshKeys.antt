-- Keys of which none comes again are keys that stand at most once.
use Rattle.std.proofs.Common.{◌≡◌, ◌≢◌, ℕ, ◌+◌, Bool, true, false, if◌then◌else◌, ◌||◌, List, [], ◌∷◌, None, refl, sym, ap, ap₂, ◌∙◌, ⊎_elim, zero-add, arith}
use Rattle.std.specs.List.{All, count_by}
use Rattle.std.specs.Str.{bytes_eq}
use Rattle.std.proofs.lemmas.Bool.{cases_Bool as cases, and_parts, and_from, or_parts}
use Rattle.std.proofs.lemmas.List.Elements.{All-nil, All-cons, All-head, All-tail}
use Rattle.std.proofs.lemmas.List.Sums.{sum_by-cons}
use Rattle.std.proofs.lemmas.Slice.Eq.{bytes_eq-Decides}
use Rattle.statement_model.specs.Grammar.{Key}
use Rattle.statement_model.specs.Reading.{same_words, is_among, repeats, with_key}
use Rattle.piece_laws.specs.KeyLaws.{AreFresh, StandOnce, FreshIsOnce}

same_key : (vs ws : Key) → same_words vs ws ≡ true → vs ≡ ws
same_key [] [] e = refl
same_key [] (w ∷ ws) e = absurd (cc)
same_key (v ∷ vs) [] e = absurd (cc)
same_key (v ∷ vs) (w ∷ ws) e =
    let both = and_parts (bytes_eq v w) (same_words vs ws) e in
    ap₂ (λ (u : List ℕ) (us : Key). u ∷ us) ((bytes_eq-Decides v w).0 both.0) (same_key vs ws both.1)

key_itself : (ws : Key) → same_words ws ws ≡ true
key_itself [] = refl
key_itself (w ∷ ws) = and_from (bytes_eq w w) (same_words ws ws) ((bytes_eq-Decides w w).1 refl) (key_itself ws)

-- how often a key stands among one and then others
count_same : (key first : Key) (keys : List Key) → same_words key first ≡ true → count_by (same_words key) (first ∷ keys) ≡ 1 + count_by (same_words key) keys
count_same key first keys same = sum_by-cons (λ (k : Key). if same_words key k then 1 else 0) first keys ∙ rw same refl

count_other : (key first : Key) (keys : List Key) → same_words key first ≡ false → count_by (same_words key) (first ∷ keys) ≡ count_by (same_words key) keys
count_other key first keys other = sum_by-cons (λ (k : Key). if same_words key k then 1 else 0) first keys ∙ rw other (zero-add (count_by (same_words key) keys))

-- none of these keys was seen
abbrev Unseen : List Key → List Key → Type 0
Unseen seen keys = All (λ key. repeats seen key ≡ None) keys

not_among : (w : List ℕ) (ws : Key) (seen : List Key) → repeats seen (w ∷ ws) ≡ None → is_among seen (w ∷ ws) ≡ false
not_among w ws seen fresh = ⊎_elim
    (λ (is : is_among seen (w ∷ ws) ≡ true). let h = rw is at fresh in absurd (cc))
    (λ (none : is_among seen (w ∷ ws) ≡ false). none)
    (cases (is_among seen (w ∷ ws)))

less_seen : (key more : Key) (seen : List Key) → repeats (with_key more seen) key ≡ None → repeats seen key ≡ None
less_seen [] more seen fresh = refl
less_seen (w ∷ ws) [] seen fresh = fresh
less_seen (w ∷ ws) (v ∷ vs) seen fresh = let none = (or_parts (same_words (w ∷ ws) (v ∷ vs)) (is_among seen (w ∷ ws)) (not_among w ws ((v ∷ vs) ∷ seen) fresh)).1 in rw none refl

all_less_seen : (more : Key) (seen keys : List Key) → Unseen (with_key more seen) keys → Unseen seen keys
all_less_seen more seen [] all = All-nil (λ key. repeats seen key ≡ None)
all_less_seen more seen (k ∷ ks) all =
    let Later = λ (key : Key). repeats (with_key more seen) key ≡ None in
    All-cons (λ key. repeats seen key ≡ None) k ks (less_seen k more seen (All-head Later k ks all)) (all_less_seen more seen ks (All-tail Later k ks all))

fresh_unseen : (seen keys : List Key) → AreFresh seen keys → Unseen seen keys
fresh_unseen seen [] fresh = All-nil (λ key. repeats seen key ≡ None)
fresh_unseen seen (k ∷ ks) fresh = All-cons (λ key. repeats seen key ≡ None) k ks fresh.0 (all_less_seen k seen ks (fresh_unseen (with_key k seen) ks fresh.1))

-- a key that was seen is none of those that weren't
differs : (w : List ℕ) (ws key : Key) (seen : List Key) → is_among seen (w ∷ ws) ≡ true → repeats seen key ≡ None → same_words (w ∷ ws) key ≡ false
differs w ws [] seen among fresh = refl
differs w ws (v ∷ vs) seen among fresh = ⊎_elim
    (λ (is : same_words (w ∷ ws) (v ∷ vs) ≡ true).
    let also : is_among seen (v ∷ vs) ≡ true = ap (is_among seen) (sym (same_key (w ∷ ws) (v ∷ vs) is)) ∙ among in
    let none = not_among v vs seen fresh in
    absurd (cc))
    (λ (none : same_words (w ∷ ws) (v ∷ vs) ≡ false). none)
    (cases (same_words (w ∷ ws) (v ∷ vs)))

none_counted : (w : List ℕ) (ws : Key) (seen keys : List Key) → is_among seen (w ∷ ws) ≡ true → Unseen seen keys → count_by (same_words (w ∷ ws)) keys ≡ 0
none_counted w ws seen [] among all = refl
none_counted w ws seen (k ∷ ks) among all =
    let Fresh = λ (key : Key). repeats seen key ≡ None in
    count_other (w ∷ ws) k ks (differs w ws k seen among (All-head Fresh k ks all)) ∙ none_counted w ws seen ks among (All-tail Fresh k ks all)

now_among : (w : List ℕ) (ws key : Key) (seen : List Key) → w ∷ ws ≡ key → is_among (with_key key seen) (w ∷ ws) ≡ true
now_among w ws key seen is =
    ap (λ (k : Key). is_among (with_key k seen) (w ∷ ws)) (sym is) ∙ ap (λ (b : Bool). b || is_among seen (w ∷ ws)) (key_itself (w ∷ ws))

fresh_once : (seen keys : List Key) → AreFresh seen keys → StandOnce keys
fresh_once seen [] fresh key some = let none : count_by (same_words key) [] ≡ 0 = refl in omega (arith, none)
fresh_once seen (k ∷ ks) fresh [] some = absurd (some refl)
fresh_once seen (k ∷ ks) fresh (w ∷ ws) some = ⊎_elim
    (λ (same : same_words (w ∷ ws) k ≡ true).
    let is = same_key (w ∷ ws) k same in
    let none = none_counted w ws (with_key k seen) ks (now_among w ws k seen is) (fresh_unseen (with_key k seen) ks fresh.1) in
    omega (arith, count_same (w ∷ ws) k ks same, none))
    (λ (other : same_words (w ∷ ws) k ≡ false). let later = fresh_once (with_key k seen) ks fresh.1 (w ∷ ws) some in omega (arith, count_other (w ∷ ws) k ks other, later))
    (cases (same_words (w ∷ ws) k))

-- the other way round
once_later : (first : Key) (keys : List Key) → StandOnce (first ∷ keys) → StandOnce keys
once_later first keys once key some =
    let most = once key some in
    ⊎_elim
    (λ (same : same_words key first ≡ true). omega (arith, most, count_same key first keys same))
    (λ (other : same_words key first ≡ false). omega (arith, most, count_other key first keys other))
    (cases (same_words key first))

still_unseen : (v : List ℕ) (vs key : Key) (seen : List Key) → same_words (v ∷ vs) key ≡ false → repeats seen key ≡ None → repeats ((v ∷ vs) ∷ seen) key ≡ None
still_unseen v vs [] seen other fresh = refl
still_unseen v vs (w ∷ ws) seen other fresh = ⊎_elim
    (λ (same : same_words (w ∷ ws) (v ∷ vs) ≡ true).
    let again : same_words (v ∷ vs) (w ∷ ws) ≡ true = ap (same_words (v ∷ vs)) (same_key (w ∷ ws) (v ∷ vs) same) ∙ key_itself (v ∷ vs) in
    absurd (cc))
    (λ (none : same_words (w ∷ ws) (v ∷ vs) ≡ false). let unseen = not_among w ws seen fresh in rw (none, unseen) refl)
    (cases (same_words (w ∷ ws) (v ∷ vs)))

none_same : (v : List ℕ) (vs : Key) (seen keys : List Key) → count_by (same_words (v ∷ vs)) keys ≡ 0 → Unseen seen keys → Unseen ((v ∷ vs) ∷ seen) keys
none_same v vs seen [] none all = All-nil (λ key. repeats ((v ∷ vs) ∷ seen) key ≡ None)
none_same v vs seen (k ∷ ks) none all = ⊎_elim
    (λ (same : same_words (v ∷ vs) k ≡ true). let one = count_same (v ∷ vs) k ks same in absurd (omega (arith, one, none)))
    (λ (other : same_words (v ∷ vs) k ≡ false).
    let Fresh = λ (key : Key). repeats seen key ≡ None in
    All-cons (λ key. repeats ((v ∷ vs) ∷ seen) key ≡ None) k ks
    (still_unseen v vs k seen other (All-head Fresh k ks all))
    (none_same v vs seen ks (sym (count_other (v ∷ vs) k ks other) ∙ none) (All-tail Fresh k ks all)))
    (cases (same_words (v ∷ vs) k))

later_unseen : (first : Key) (seen keys : List Key) → StandOnce (first ∷ keys) → Unseen seen keys → Unseen (with_key first seen) keys
later_unseen [] seen keys once all = all
later_unseen (v ∷ vs) seen keys once all =
    let some : v ∷ vs ≢ [] = λ e. cc in
    let most = once (v ∷ vs) some in
    let none : count_by (same_words (v ∷ vs)) keys ≡ 0 = omega (arith, most, count_same (v ∷ vs) (v ∷ vs) keys (key_itself (v ∷ vs))) in
    none_same v vs seen keys none all

once_fresh : (seen keys : List Key) → Unseen seen keys → StandOnce keys → AreFresh seen keys
once_fresh seen [] all once = tt
once_fresh seen (k ∷ ks) all once =
    let Fresh = λ (key : Key). repeats seen key ≡ None in
    (All-head Fresh k ks all, once_fresh (with_key k seen) ks (later_unseen k seen ks once (All-tail Fresh k ks all)) (once_later k ks once))

none_seen : (keys : List Key) → Unseen [] keys
none_seen [] = All-nil (λ key. repeats [] key ≡ None)
none_seen ([] ∷ ks) = All-cons (λ key. repeats [] key ≡ None) [] ks refl (none_seen ks)
none_seen ((w ∷ ws) ∷ ks) = All-cons (λ key. repeats [] key ≡ None) (w ∷ ws) ks refl (none_seen ks)

pub fresh_is_once : FreshIsOnce
fresh_is_once keys = (fresh_once [] keys, once_fresh [] keys (none_seen keys))
