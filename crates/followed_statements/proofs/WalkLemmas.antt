-- A walk over two lists at once, past what others don't see.
use Rattle.std.proofs.Common.{◌≡◌, ◌<◌, ◌+◌, ℕ, Bool, true, false, List, [], ◌∷◌, drop, get_or, length, slice_get, Some, refl, sym, ap, subst, ◌∙◌, if◌then◌else◌}
use Rattle.std.proofs.lemmas.List.{drop_more}
use Rattle.std.proofs.lemmas.Option.{slice_get-get_or}
use Rattle.def_grammar.specs.Records.{Record}
use Rattle.def_reader.specs.StatementViews.{record_view}
use Rattle.def_reader.specs.declared.statement.Statement.{Statement}
use Rattle.followed_statements.specs.Following.{ShowSame}
use Rattle.followed_statements.specs.Seen.{passing}
use Rattle.followed_statements.proofs.ShowLemmas.{both}

there : (xs : List Statement) (n : ℕ) (x : Statement) → n < length xs → x ≡ get_or xs n x → drop n xs ≡ x ∷ drop (n + 1) xs
there xs n x low is = drop_more xs n x low ∙ ap (λ (y : Statement). y ∷ drop (n + 1) xs) (sym is)

found_there : (xs : List Statement) (n : ℕ) (x : Statement) → n < length xs → x ≡ get_or xs n x → slice_get xs n ≡ Some x
found_there xs n x low is = slice_get-get_or xs n x low ∙ ap (λ (y : Statement). Some y) (sym is)

same_one : (xs : List Statement) (n : ℕ) (x y : Statement) → n < length xs → x ≡ get_or xs n x → Some y ≡ slice_get xs n → x ≡ y
same_one xs n x y low is found = let here = found_there xs n x low is in cc

by_test : (b : Bool) (r : Record) (rs : List Record) → b ≡ false → (if b then r ∷ rs else rs) ≡ rs
by_test true r rs h = absurd (cc)
by_test false r rs h = refl

by_pass : (b : Bool) (r : Record) (rs : List Record) → b ≡ true → (if b then r ∷ rs else rs) ≡ r ∷ rs
by_pass true r rs h = refl
by_pass false r rs h = absurd (cc)

module _ (p : Record → Bool) (xs : List Statement) (n : ℕ) (x : Statement) (low : n < length xs) (is : x ≡ get_or xs n x) where
  skipped : p (record_view x) ≡ false → passing p (drop n xs) ≡ passing p (drop (n + 1) xs)
  skipped h = ap (passing p) (there xs n x low is) ∙ by_test (p (record_view x)) (record_view x) (passing p (drop (n + 1) xs)) h

  met : p (record_view x) ≡ true → passing p (drop n xs) ≡ record_view x ∷ passing p (drop (n + 1) xs)
  met h = ap (passing p) (there xs n x low is) ∙ by_pass (p (record_view x)) (record_view x) (passing p (drop (n + 1) xs)) h

  pub met_first : (from : ℕ) → p (record_view x) ≡ true → passing p (drop from xs) ≡ passing p (drop n xs)
      → (y : Statement) → Some y ≡ slice_get xs n → passing p (drop from xs) ≡ record_view y ∷ passing p (drop (n + 1) xs)
  met_first from h before y found = before ∙ met h ∙ ap (λ (z : Statement). record_view z ∷ passing p (drop (n + 1) xs)) (same_one xs n x y low is found)

-- two that show the same, in front of others
met_both : (a b : List Record) (x y : Record) (xs ys : List Record) → a ≡ x ∷ xs → b ≡ y ∷ ys → ShowSame (x ∷ []) (y ∷ []) → ShowSame xs ys → ShowSame a b
met_both a b x y xs ys a_is b_is same rest =
    subst (λ (l : List Record). ShowSame l b) (sym a_is) (subst (λ (l : List Record). ShowSame (x ∷ xs) l) (sym b_is) (both (x ∷ []) (y ∷ []) xs ys same rest))

module _ (p : Record → Bool) (ws cs : List Statement) (i from : ℕ) (x : Statement) (low : i < length ws) (is : x ≡ get_or ws i x)
    (so : ShowSame (passing p (drop i ws)) (passing p (drop from cs)) → ShowSame (passing p ws) (passing p cs)) where
  pub skip_step : p (record_view x) ≡ false → ShowSame (passing p (drop (i + 1) ws)) (passing p (drop from cs)) → ShowSame (passing p ws) (passing p cs)
  skip_step h rest = so (subst (λ (l : List Record). ShowSame l (passing p (drop from cs))) (sym (skipped p ws i x low is h)) rest)

  pub met_step : (k : ℕ) (y : Statement) → k < length cs → y ≡ get_or cs k y → p (record_view x) ≡ true
      → ((z : Statement) → Some z ≡ slice_get cs k → passing p (drop from cs) ≡ record_view z ∷ passing p (drop (k + 1) cs))
      → ShowSame (record_view x ∷ []) (record_view y ∷ [])
      → ShowSame (passing p (drop (i + 1) ws)) (passing p (drop (k + 1) cs)) → ShowSame (passing p ws) (passing p cs)
  met_step k y k_low y_is h next same rest =
      so (
      met_both (passing p (drop i ws)) (passing p (drop from cs)) (record_view x) (record_view y) (passing p (drop (i + 1) ws)) (passing p (drop (k + 1) cs))
      (met p ws i x low is h) (next y (sym (found_there cs k y k_low y_is))) same rest
      )
