-- What others see of statements but for a component.
use Rattle.std.proofs.Common.{◌≡◌, ◌&&◌, ℕ, Bool, true, false, not, List, [], ◌∷◌, ◌++◌, filter, map, refl, sym, ap, ap₂, ◌∙◌, if◌then◌else◌}
use Rattle.std.specs.Prelude.{Option, Some, None}
use Rattle.std.specs.List.{cons_option, filter_map}
use Rattle.std.proofs.lemmas.List.{map-append}
use Rattle.std.proofs.lemmas.List.Elements.{filter-append, filter_map-append}
use Rattle.design_model.specs.declared.identifier.StmtId.{StmtId}
use Rattle.design_model.specs.EnumWords.{section_word}
use Rattle.def_grammar.specs.Nets.{is_net, must_join}
use Rattle.def_grammar.specs.Records as records
use Rattle.def_grammar.specs.Records.{Entry, Record, entry_of, name_of}
use Rattle.entry_rules.specs.Unknown.{is_same}
use Rattle.agreement_laws.specs.Agreement.{Shown, all_shown, is_named, shown, shows_component}
use Rattle.text_pieces.specs.Tables.{Kept}
use Rattle.design_tables.specs.Lookups.{is_of, lists}
use Rattle.design_text.specs.Exchanges.{Exchanged, IsExchange}
use Rattle.followed_statements.specs.Following.{said}
use Rattle.followed_statements.specs.Seen.{ShowAllBut, is_component, is_seen, is_seen_entry, is_seen_record, listing_one, seen_but}
use Rattle.followed_statements.proofs.ExchangeLemmas.{kept, said_parted}

pub shown-append : (xs ys : List Record) → all_shown (xs ++ ys) ≡ all_shown xs ++ all_shown ys
shown-append xs ys =
    ap (λ (es : List Entry). filter is_named (map shown es)) (filter_map-append entry_of xs ys)
    ∙ ap (filter is_named) (map-append shown (filter_map entry_of xs) (filter_map entry_of ys))
    ∙ filter-append is_named (map shown (filter_map entry_of xs)) (map shown (filter_map entry_of ys))

seen-append : (c : Option (List ℕ)) (xs ys : List Record) → seen_but c (xs ++ ys) ≡ seen_but c xs ++ seen_but c ys
seen-append None xs ys = shown-append xs ys
seen-append (Some c) xs ys =
    ap (filter (λ x. not (shows_component c x))) (shown-append xs ys) ∙ filter-append (λ x. not (shows_component c x)) (all_shown xs) (all_shown ys)

seen_parted : (c : Option (List ℕ)) (front some rest : List Record) → seen_but c (front ++ (some ++ rest)) ≡ seen_but c front ++ (seen_but c some ++ seen_but c rest)
seen_parted c front some rest = seen-append c front (some ++ rest) ∙ ap (λ (l : List Shown). seen_but c front ++ l) (seen-append c some rest)

listing-append : (c : Option (List ℕ)) (xs ys : List Record) → listing_one c (xs ++ ys) ≡ listing_one c xs ++ listing_one c ys
listing-append None xs ys = refl
listing-append (Some c) xs ys = filter-append (lists (is_of c)) xs ys

listing_parted : (c : Option (List ℕ)) (front some rest : List Record) → listing_one c (front ++ (some ++ rest)) ≡ listing_one c front ++ (listing_one c some ++ listing_one c rest)
listing_parted c front some rest =
    listing-append c front (some ++ rest) ∙ ap (λ (l : List Record). listing_one c front ++ l) (listing-append c some rest)

-- the relation goes on
pub seen_themselves : (c : Option (List ℕ)) (rs : List Record) → ShowAllBut c rs rs
seen_themselves c rs = record { seen = refl; listing = refl }

pub seen_chain : (c : Option (List ℕ)) (x y z : List Record) → ShowAllBut c x y → ShowAllBut c y z → ShowAllBut c x z
seen_chain c x y z f g = record { seen = f.seen ∙ g.seen; listing = f.listing ∙ g.listing }

-- where those that went show the same as those that came, and those of them that list the component are the same
seen_between : (c : Option (List ℕ)) (front went came rest : List Record) → seen_but c went ≡ seen_but c came → listing_one c went ≡ listing_one c came
    → ShowAllBut c (front ++ (went ++ rest)) (front ++ (came ++ rest))
seen_between c front went came rest same listed = record {
  seen = seen_parted c front went rest ∙ ap (λ (l : List Shown). seen_but c front ++ (l ++ seen_but c rest)) same ∙ sym (seen_parted c front came rest);
  listing =
      listing_parted c front went rest
      ∙ ap (λ (l : List Record). listing_one c front ++ (l ++ listing_one c rest)) listed
      ∙ sym (listing_parted c front came rest);
}

pub exchange_seen : (c : Option (List ℕ)) (slots : List (Option Kept)) (old new : List (StmtId × Record)) (x : Exchanged) → IsExchange slots old new x
    → seen_but c (kept slots x.went) ≡ seen_but c (kept slots x.came) → listing_one c (kept slots x.went) ≡ listing_one c (kept slots x.came)
    → ShowAllBut c (said old) (said new)
exchange_seen c slots old new x e same listed =
    rw (ap said e.old_is ∙ said_parted slots e.front x.went e.rest, ap said e.new_is ∙ said_parted slots e.front x.came e.rest)
    (seen_between c (kept slots e.front) (kept slots x.went) (kept slots x.came) (kept slots e.rest) same listed)

-- what is seen of entries, one by one
seen_if : (c : List ℕ) (e : Entry) → is_seen (Some c) e ≡ (is_named (shown e) && not (shows_component c (shown e)))
unfolding section_word
seen_if c (records.component x) = refl
seen_if c (records.pin x) = refl
seen_if c (records.region x) = refl
seen_if c (records.group x) = refl
seen_if c (records.blockage x) = refl
seen_if c (records.net (is_net n)) = refl
seen_if c (records.net (must_join n)) = refl
seen_if c (records.special_net x) = refl
seen_if c (records.via x) = refl
seen_if c (records.rule x) = refl
seen_if c (records.skipped s x) = refl

-- a test of what is shown is one of the entry
mapped_step : {A B : Type 0} (f : A → B) (p : Bool) (x : A) (xs : List A) (ys : List B) → ys ≡ map f xs
    → (if p then f x ∷ ys else ys) ≡ map f (if p then x ∷ xs else xs)
mapped_step f true x xs ys same = ap (λ l. f x ∷ l) same
mapped_step f false x xs ys same = same

filter-map : {A B : Type 0} (f : A → B) (p : B → Bool) (xs : List A) → filter p (map f xs) ≡ map f (filter (λ a. p (f a)) xs)
filter-map f p [] = refl
filter-map f p (x ∷ xs) = mapped_step f (p (f x)) x (filter (λ a. p (f a)) xs) (filter p (map f xs)) (filter-map f p xs)

-- two tests are one
both_step : {A : Type 0} (q : A → Bool) (a b : Bool) (x : A) (xs ys : List A) → q x ≡ b → filter q xs ≡ ys
    → filter q (if a then x ∷ xs else xs) ≡ (if a && b then x ∷ ys else ys)
both_step q true b x xs ys h same = ap₂ (λ d l. if d then x ∷ l else l) h same
both_step q false b x xs ys h same = same

filter-filter : {A : Type 0} (p q : A → Bool) (xs : List A) → filter q (filter p xs) ≡ filter (λ x. p x && q x) xs
filter-filter p q [] = refl
filter-filter p q (x ∷ xs) = both_step q (p x) (q x) x (filter p xs) (filter (λ y. p y && q y) xs) refl (filter-filter p q xs)

-- tests that are the same
same_step : {A : Type 0} (a b : Bool) (x : A) (xs ys : List A) → a ≡ b → xs ≡ ys → (if a then x ∷ xs else xs) ≡ (if b then x ∷ ys else ys)
same_step a b x xs ys h same = ap₂ (λ d l. if d then x ∷ l else l) h same

filter-same : {A : Type 0} (p q : A → Bool) → ((x : A) → p x ≡ q x) → (xs : List A) → filter p xs ≡ filter q xs
filter-same p q h [] = refl
filter-same p q h (x ∷ xs) = same_step (p x) (q x) x (filter p xs) (filter q xs) (h x) (filter-same p q h xs)

-- the entries that others see
seen_entries : (c : Option (List ℕ)) (rs : List Record) → map shown (filter (is_seen c) (filter_map entry_of rs)) ≡ seen_but c rs
seen_entries None rs = sym (filter-map shown is_named (filter_map entry_of rs))
seen_entries (Some c) rs =
    let es = filter_map entry_of rs in
    ap (map shown) (filter-same (is_seen (Some c)) (λ (e : Entry). is_named (shown e) && not (shows_component c (shown e))) (seen_if c) es)
    ∙ sym (filter-map shown (λ (x : Shown). is_named x && not (shows_component c x)) es)
    ∙ sym (filter-filter is_named (λ (x : Shown). not (shows_component c x)) (map shown es))

-- statement by statement
entry_step : (c : Option (List ℕ)) (e : Entry) (b : Bool) (r : Record) (rs : List Record) (es : List Entry) → entry_of r ≡ Some e → filter_map entry_of rs ≡ es
    → filter_map entry_of (if b then r ∷ rs else rs) ≡ (if b then e ∷ es else es)
entry_step c e true r rs es is same = ap₂ (λ (o : Option Entry) (l : List Entry). cons_option o l) is same
entry_step c e false r rs es is same = same

record_step : (c : Option (List ℕ)) (o : Option Entry) (r : Record) (rs : List Record) (es : List Entry) → entry_of r ≡ o → filter_map entry_of rs ≡ filter (is_seen c) es
    → filter_map entry_of (if is_seen_entry c o then r ∷ rs else rs) ≡ filter (is_seen c) (cons_option o es)
record_step c None r rs es is same = same
record_step c (Some e) r rs es is same = entry_step c e (is_seen c e) r rs (filter (is_seen c) es) is same

each_seen : (c : Option (List ℕ)) (rs : List Record) → filter_map entry_of (filter (is_seen_record c) rs) ≡ filter (is_seen c) (filter_map entry_of rs)
each_seen c [] = refl
each_seen c (r ∷ rs) = record_step c (entry_of r) r (filter (is_seen_record c) rs) (filter_map entry_of rs) refl (each_seen c rs)

-- entries that others see have a name
both_or_none : (b : Bool) → b ≡ (b && b)
both_or_none true = refl
both_or_none false = refl

first_again : (b d : Bool) → (b && d) ≡ ((b && d) && b)
first_again true true = refl
first_again true false = refl
first_again false d = refl

seen_have_names : (c : Option (List ℕ)) (e : Entry) → is_seen c e ≡ (is_seen c e && is_named (shown e))
seen_have_names None e = both_or_none (is_named (shown e))
seen_have_names (Some c) e = first_again (is_named (shown e)) (not (is_component e && is_same c (name_of e)))

-- all that is shown by the statements that others see
pub seen_is : (c : Option (List ℕ)) (rs : List Record) → all_shown (filter (is_seen_record c) rs) ≡ seen_but c rs
seen_is c rs =
    ap (λ (es : List Entry). filter is_named (map shown es)) (each_seen c rs)
    ∙ filter-map shown is_named (filter (is_seen c) (filter_map entry_of rs))
    ∙ ap (map shown) (filter-filter (is_seen c) (λ (e : Entry). is_named (shown e)) (filter_map entry_of rs) ∙ sym (filter-same (is_seen c) (λ (e : Entry). is_seen c e && is_named (shown e)) (seen_have_names c) (filter_map entry_of rs)))
    ∙ seen_entries c rs
