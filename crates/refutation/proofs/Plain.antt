-- Without a limit a clique is refused as bytes are that are no record at all: a list may be read as if there were no kind 4.
use Prim.Native.Nat.{ℕ}
use mathlib.Core.List.{List, [], ◌∷◌, map}
use mathlib.Core.Path.{◌≡◌, refl, ap, fun_ext}
use Rattle.sheet.specs.Verdicts.{Verdict}
use Rattle.limit.specs.Meaning.{unlimited}
use Rattle.store.specs.Records.{NodeRecord, split_record, ground_record, met_record, clique_record, no_record, records_of}
use Rattle.refutation.specs.Refutation.{Split, Nearest, no_split, same_split, must_end, after_ground, nearest, walk_record, walk_from, walk_verdict}

-- A record, read as if kind 4 were none of the kinds.
abbrev pub plain_record : NodeRecord → NodeRecord
plain_record (split_record a b next) = split_record a b next
plain_record (ground_record c) = ground_record c
plain_record met_record = met_record
plain_record clique_record = no_record
plain_record no_record = no_record

-- What is left over or missing does not ask for kinds.
end_plain : (rest : List NodeRecord) (following : ℕ) → must_end rest following ≡ must_end (map plain_record rest) following
end_plain [] following = refl
end_plain (r ∷ rest) following = refl

after_plain : {walk other : ℕ → List Split → Verdict} → walk ≡ other → (rest : List NodeRecord) (following : ℕ) (near : Nearest)
    → after_ground walk rest following near ≡ after_ground other (map plain_record rest) following near
after_plain e rest following no_split = end_plain rest following
after_plain e rest following (same_split split a b above) = rw e

-- The walk without a limit says the same of the records read so,
pub plain_walk : (lowest : ℕ) (s : List ℕ) (list : List NodeRecord) → walk_from unlimited lowest s list ≡ walk_from unlimited lowest s (map plain_record list)
unfolding walk_from
plain_walk lowest s [] = refl
plain_walk lowest s (r ∷ rest) = fun_ext (λ (at : ℕ). fun_ext (λ (above : List Split). go r at above (plain_walk lowest s rest)))
  where
    go : (r : NodeRecord) (at : ℕ) (above : List Split) {walk other : ℕ → List Split → Verdict} → walk ≡ other
        → walk_record unlimited lowest s walk rest at above r ≡ walk_record unlimited lowest s other (map plain_record rest) at above (plain_record r)
    go (split_record a b next) at above e = rw e
    go (ground_record c) at above e = rw (after_plain e rest _ (nearest above))
    go met_record at above e = refl
    go clique_record at above e = refl
    go no_record at above e = refl

-- and so it does of a list of bytes.
pub plain_verdict : (lowest : ℕ) (s list : List ℕ) → walk_verdict unlimited lowest s list ≡ walk_from unlimited lowest s (map plain_record (records_of list)) 1 []
unfolding walk_verdict
plain_verdict lowest s list = ap (λ (walk : ℕ → List Split → Verdict). walk 1 []) (plain_walk lowest s (records_of list))
