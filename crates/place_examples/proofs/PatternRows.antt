-- Worked rows of patterns.
use Rattle.std.proofs.Common.{◌≡◌, [], ◌∷◌, true, false, refl, codes}
use Rattle.place_rules.specs.Patterns.{tails, matches}

left_over : tails (codes "ab") ≡ codes "ab" ∷ codes "b" ∷ [] ∷ []
left_over = refl

none_by_none : matches [] [] ≡ true
unfolding matches
none_by_none = refl

some_by_none : matches [] (codes "a") ≡ false
unfolding matches
some_by_none = refl

itself : matches (codes "u1/a") (codes "u1/a") ≡ true
unfolding matches
itself = refl

front_alone : matches (codes "u1") (codes "u1/a") ≡ false
unfolding matches
front_alone = refl

too_short : matches (codes "u1/a") (codes "u1") ≡ false
unfolding matches
too_short = refl

all_names : matches (codes "*") (codes "u1") ≡ true
unfolding matches
all_names = refl

no_bytes : matches (codes "u*1") (codes "u1") ≡ true
unfolding matches
no_bytes = refl

front : matches (codes "u1/*") (codes "u1/a/b") ≡ true
unfolding matches
front = refl

end : matches (codes "*/b") (codes "u1/a/b") ≡ true
unfolding matches
end = refl

not_the_end : matches (codes "*/a") (codes "u1/a/b") ≡ false
unfolding matches
not_the_end = refl

-- the last part stands at the end, though it stands before too
last_of_two : matches (codes "a*ab*b") (codes "aababb") ≡ true
unfolding matches
last_of_two = refl

-- parts may not share bytes
shared_byte : matches (codes "a*a") (codes "a") ≡ false
unfolding matches
shared_byte = refl

two_stars : matches (codes "**") [] ≡ true
unfolding matches
two_stars = refl

-- no other byte is special
question_mark : matches (codes "a?") (codes "ab") ≡ false
unfolding matches
question_mark = refl

brackets : matches (codes "a[1]*") (codes "a[1]_b") ≡ true
unfolding matches
brackets = refl
