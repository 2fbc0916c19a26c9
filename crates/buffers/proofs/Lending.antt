-- What is lent by `&mut` for one call, and comes back: laws of the logic, for any type; they say nothing of sheets.
--     LentAgain           what the holder of a `&κ mut [T]` keeps while it is lent again for κ' under the name γ₁
--     lends_again         own (the `&κ mut [T]` ((b, o), γ, ys)) ∗ [κ]_q  ⊢ ⇛ ∃ γ₁. own (the `&κ' mut [T]` ((b, o), γ₁, ys)) ∗ LentAgain γ₁
--     comes_back          given `Room`, and zs as long as ys:  [†κ'] ∗ LentAgain γ₁ ∗ finally γ₁ zs  ⊢ ⇛ (own (the `&κ mut [T]` ((b, o), γ, zs)) ∗ [κ]_q)
-- A local whose type R holds the lifetime κ (a struct with a `&κ mut [T]`) is lent for ν ∷ κ, the meet of a lifetime ν made for the call and κ.
--     lies_in, lies_out   the cell and what a value owns, together: the value lies at (b, o)
--     LenderHas                what the lender keeps while the local is lent under the name δ
--     bounds_hold         ν ∷ κ is within κ: the bound `'a: 's` of a callee `fn f<'s, 'a>(p: &'s mut S<'a>)`
--     lends_local         h lies at (b, o) ∗ [ν]_1 ∗ [κ]_q  ⊢ ⇛ ∃ δ. (own (the `&(ν ∷ κ) mut R` ((b, o), δ, h)) ∗ [ν ∷ κ]_ql ∗ [κ]_qr ∗ true) ∗ LenderHas δ        ql and qr are q's halves
--     local_back          ([ν ∷ κ]_ql ∗ [κ]_qr ∗ true) ∗ LenderHas δ ∗ res δ h'  ⊢ ⇛ (h' lies at (b, o) ∗ [κ]_q)
-- And what a contract of several clauses claims at an exit:
--     claims              P  ⊢  P ∗ X, where X holds of itself        one, more   a fact holds of itself, alone and before others
-- Assumes `Logic`.
use mathlib.Core.Path.{◌≡◌, sym, ap, subst}
use Prim.Native.Nat.{ℕ}
use mathlib.Core.List.{List, [], ◌∷◌}
use lib.ListN.{length}
use seplogic.Ra.Ura.{Ura}
use base.Fraction.{full_share, left, right}
use mir.Syntax.{Lifetime}
use mir.Val.{Val, vptr}
use base.Logic.{ent, sep, ex, SProp, emp, via, emp∗, mono_l, comm∗}
use base.Fml.{Lft, GName, Share, Fml, fsep, flft, fdead, fobs, fauth, flent, fobor, ftrue, fres}
use types.Logic.{Logic, sem}
use types.Kit.{‵, ◌⊛◌, some, later, ◌$◌, ◌∵◌, !, qed, move, use1, use3, drop, split, pick, fsplit, fjoin, frame, await, updating, now as at_once, show, done, raw, use2, fpick, fpack, join, Item, Step, step, prop}
use types.SemTy.{cells, Arr, Body}
use denote.RattleType.{RattleType}
use denote.Shadow.{pure_l, pure_i}
use denote.Memory.{mem, cell_at, part_at, part_of}
use denote.Ref.{MutBor, MutRef}
use denote.Slice.{slice_val, MutSlice, heres, Room, finally, mut_slice_at, coded_holeys}
use denote.Lend.{Held, lends_slice, slice_back, lends_ref, ref_back}
use denote.Index.{row, whole_out, whole_in, opens_slice, closes_slice}
use contract.BorrowLft.{◌⊑◌, meet_⊑_right}
use contract.Monad.{fact, fact_i}
use borrow.Within.Token.{Rest, within_token, within_end}

-- ---- a slice lent again

module _ (R : RattleType) (κ κ' : Lft) (q : Share) (γ : GName) (b o : ℕ) where
  abbrev at_list : GName → List R.Denot → MutBor (List R.Denot)
  at_list δ ys = record { ref_ptr = (b, o); ghost_name = δ; now = ys }

  abbrev pub LentAgain : GName → List R.Denot → Fml
  LentAgain γ₁ ys = fsep (flent κ' (Held R (length ys) b o γ₁)) (fsep (fobor κ q (Held R (length ys) b o γ)) (fsep (fobs γ ((coded_holeys R).code (heres R ys))) (fauth γ ((coded_holeys R).code (heres R ys)))))

  module _ {M : Type 1} {𝓤 : Ura M} (𝓛 : Logic 𝓤) (ℓ ℓ' : Lifetime) (ys : List R.Denot) where
    open 𝓛 use {H, A}

    abbrev vals : List Val
    vals = slice_val (b, o) (length ys) ∷ []

    pub lends_again : ent 𝓤 (sep 𝓤 (sem 𝓛 ((MutSlice ℓ κ R).own_val (at_list γ ys) vals)) (A.lft κ q))
        (H.⇛ (ex 𝓤 (λ (γ₁ : GName). sep 𝓤 (sem 𝓛 ((MutSlice ℓ' κ' R).own_val (at_list γ₁ ys) vals)) (sem 𝓛 (LentAgain γ₁ ys)))))
    lends_again =
        qed 𝓛 (‵ ((MutSlice ℓ κ R).own_val (at_list γ ys) vals) ∷ ‵ (flft κ q) ∷ []) ∵ updating ! $ fsplit ! $ pure_l ! (mut_slice_at R (at_list γ ys) vals) (λ p. fsplit ! $ opens_slice ! tt R ys b o $
        use1 𝓛 (‵ (cells (mem R) ys b o)) (whole_in 𝓛 R ys b o) $
        use1 𝓛 (later (some (λ (γ₁ : GName). ‵ ((MutSlice ℓ' κ' R).own_val (at_list γ₁ ys) vals) ⊛ ‵ (flent κ' (Held R (length ys) b o γ₁))))) (lends_slice 𝓛 R ℓ' κ' ys b o p.1) $ await ! tt $ pick ! (λ γ₁. split ! $
        -- [the new slice; the lender's part at κ'; the open borrow at κ; obs γ; auth γ]
        at_once ! $ show ! (λ (γ' : GName). sep 𝓤 (sem 𝓛 ((MutSlice ℓ' κ' R).own_val (at_list γ' ys) vals)) (sem 𝓛 (LentAgain γ' ys))) γ₁ $ frame ! $
        move ! (2 ∷ 3 ∷ []) $ fjoin ! $ move ! (2 ∷ 0 ∷ []) $ fjoin ! $ move ! (1 ∷ 0 ∷ []) $ fjoin ! $ done !))

    pub comes_back : (γ₁ : GName) (zs : List R.Denot) → Room R (length ys) → length zs ≡ length ys
        → ent 𝓤 (sep 𝓤 (A.dead κ') (sep 𝓤 (sem 𝓛 (LentAgain γ₁ ys)) (sem 𝓛 (finally R γ₁ zs)))) (H.⇛ (sep 𝓤 (sem 𝓛 ((MutSlice ℓ κ R).own_val (at_list γ zs) vals)) (A.lft κ q)))
    comes_back γ₁ zs room e =
        qed 𝓛 (‵ (fdead κ') ∷ ‵ (LentAgain γ₁ ys) ∷ ‵ (finally R γ₁ zs) ∷ []) ∵ updating ! $ move ! (1 ∷ []) $ fsplit ! $ move ! (2 ∷ 0 ∷ 3 ∷ []) $
        use3 𝓛 (later (‵ ((Arr (mem R) (length ys)).own_at zs b o))) (slice_back 𝓛 R κ' γ₁ zs (length ys) b o) $ await ! tt $ fsplit ! $ drop ! $ use1 𝓛 (‵ (row R full_share zs b o)) (whole_out 𝓛 R zs b o) $
        move ! (1 ∷ []) $ fsplit ! $ move ! (1 ∷ []) $ fsplit ! $ move ! (3 ∷ 2 ∷ 0 ∷ 1 ∷ []) $ closes_slice ! tt R ys zs e b o $ at_once ! $
        fjoin ! $ pure_i ! (mut_slice_at R (at_list γ zs) vals) (tt, (tt, tt)) (ap (λ (m : ℕ). slice_val (b, o) m ∷ []) (sym e), subst (Room R) (sym e) room) $ fjoin ! $ done !

-- ---- a local lent

module _ (R : RattleType) (κ : Lft) (q : Share) (ν b o : ℕ) where
  pub bounds_hold : ν ∷ κ ⊑ κ
  bounds_hold = meet_⊑_right (ν ∷ []) κ

  module _ {M : Type 1} {𝓤 : Ura M} (𝓛 : Logic 𝓤) where
    open 𝓛 use {H, A}

    pub lies_in : (h : R.Denot) (vs : List Val) → ent 𝓤 (sep 𝓤 (sem 𝓛 (cell_at full_share R.mir vs b o)) (sem 𝓛 (R.own_val h vs))) (sem 𝓛 (part_at R full_share h b o))
    unfolding part_of
    lies_in h vs = qed 𝓛 (‵ (cell_at full_share R.mir vs b o) ∷ ‵ (R.own_val h vs) ∷ []) ∵ fjoin ! $ fpack ! (List Val) (λ us. fsep (cell_at full_share R.mir us b o) (R.own_val h us)) vs $ done !

    pub lies_out : (h : R.Denot) → ent 𝓤 (sem 𝓛 (part_at R full_share h b o)) (ex 𝓤 (λ (vs : List Val). sep 𝓤 (sem 𝓛 (cell_at full_share R.mir vs b o)) (sem 𝓛 (R.own_val h vs))))
    unfolding part_of
    lies_out h = qed 𝓛 (‵ (part_at R full_share h b o) ∷ []) ∵ fpick ! (λ vs. fsplit ! $ show ! (λ (us : List Val). sep 𝓤 (sem 𝓛 (cell_at full_share R.mir us b o)) (sem 𝓛 (R.own_val h us))) vs $ frame ! $ done !)

    abbrev pub LenderHas : GName → SProp 𝓤
    LenderHas δ = sep 𝓤 (Rest 𝓛 ν (left q)) (sem 𝓛 (flent (ν ∷ κ) (Body (mem R) b o δ)))

    abbrev Tokens : SProp 𝓤
    Tokens = sep 𝓤 (A.lft (ν ∷ κ) (left q)) (sep 𝓤 (A.lft κ (right q)) (sem 𝓛 ftrue))

    abbrev Lent : Lifetime → R.Denot → GName → SProp 𝓤
    Lent ℓ h δ = sep 𝓤 (sep 𝓤 (sem 𝓛 ((MutRef ℓ (ν ∷ κ) R).own_val (record { ref_ptr = (b, o); ghost_name = δ; now = h }) (vptr b o ∷ []))) Tokens) (LenderHas δ)

    pub lends_local : (ℓ : Lifetime) (h : R.Denot) → ent 𝓤 (sep 𝓤 (sem 𝓛 (part_at R full_share h b o)) (sep 𝓤 (A.lft (ν ∷ []) full_share) (sep 𝓤 (A.lft κ q) (sem 𝓛 ftrue)))) (H.⇛ (ex 𝓤 (Lent ℓ h)))
    lends_local ℓ h =
        qed 𝓛 (‵ (part_at R full_share h b o) ∷ ‵ (flft (ν ∷ []) full_share) ∷ ‵ (flft κ q) ∷ ‵ ftrue ∷ []) ∵ updating ! $
        use1 𝓛 (later (some (λ (δ : GName). ‵ ((MutRef ℓ (ν ∷ κ) R).own_val (record { ref_ptr = (b, o); ghost_name = δ; now = h }) (vptr b o ∷ [])) ⊛ ‵ (flent (ν ∷ κ) (Body (mem R) b o δ))))) (lends_ref 𝓛 R ℓ (ν ∷ κ) h b o) $ await ! tt $ pick ! (λ δ. split ! $
        -- [the reference; the lender's part; ν's token; κ's; true]
        move ! (3 ∷ []) $ use1 𝓛 (‵ (flft κ (left q)) ⊛ ‵ (flft κ (right q))) (𝓛.lfts.lft_split κ q) $ split ! $
        move ! (4 ∷ 0 ∷ []) $ use2 𝓛 (‵ (flft (ν ∷ κ) (left q)) ⊛ raw (Rest 𝓛 ν (left q))) (within_token 𝓛 ν κ (left q)) $ split ! $
        -- [the token of ν ∷ κ; the rest of ν's; κ's other half; the reference; the lender's part; true]
        at_once ! $ show ! (Lent ℓ h) δ $ move ! (2 ∷ 5 ∷ []) $ join ! $ move ! (1 ∷ 0 ∷ []) $ join ! $ move ! (2 ∷ 0 ∷ []) $ join ! $ frame ! $ frame ! $ done !)

    pub local_back : (δ : GName) (h' : R.Denot) → ent 𝓤 (sep 𝓤 Tokens (sep 𝓤 (LenderHas δ) (A.res δ (R.coded.code h')))) (H.⇛ (sep 𝓤 (sem 𝓛 (part_at R full_share h' b o)) (A.lft κ q)))
    local_back δ h' =
        qed 𝓛 ((‵ (flft (ν ∷ κ) (left q)) ⊛ ‵ (flft κ (right q)) ⊛ ‵ ftrue) ∷ (raw (Rest 𝓛 ν (left q)) ⊛ ‵ (flent (ν ∷ κ) (Body (mem R) b o δ))) ∷ ‵ (fres δ (R.coded.code h')) ∷ []) ∵ updating ! $
        split ! $ move ! (2 ∷ []) $ split ! $ move ! (2 ∷ 0 ∷ []) $
        -- [the token of ν ∷ κ; the rest of ν's; the lender's part; κ's other half and true; the last value]
        use2 𝓛 (later (‵ (fdead (ν ∷ κ)) ⊛ ‵ (flft κ (left q)))) (within_end 𝓛 ν κ (left q)) $ await ! tt $ split ! $
        move ! (3 ∷ []) $ split ! $ move ! (3 ∷ 0 ∷ []) $ use2 𝓛 (‵ (flft κ q)) (𝓛.lfts.lft_join κ q) $
        -- [κ's token; true; dead; the lender's part; the last value]
        move ! (2 ∷ 3 ∷ 4 ∷ []) $ use3 𝓛 (later (‵ (part_at R full_share h' b o))) (ref_back 𝓛 R (ν ∷ κ) δ h' b o) $ await ! tt $ at_once ! $ frame ! $ move ! (1 ∷ []) $ drop ! $ done !

-- ---- several clauses

module _ {M : Type 1} (𝓤 : Ura M) where
  pub one : {φ : Type 0} → φ → ent 𝓤 (emp 𝓤) (fact 𝓤 φ)
  one {φ} x = fact_i 𝓤 φ (emp 𝓤) x

  pub more : {φ : Type 0} {Y : SProp 𝓤} → φ → ent 𝓤 (emp 𝓤) Y → ent 𝓤 (emp 𝓤) (sep 𝓤 (fact 𝓤 φ) Y)
  more {φ} {Y} x y = via 𝓤 Y y (via 𝓤 (sep 𝓤 (emp 𝓤) Y) (emp∗ 𝓤 Y) (mono_l 𝓤 Y (fact_i 𝓤 φ (emp 𝓤) x)))

pub claims : {M : Type 1} {𝓤 : Ura M} {𝓛 : Logic 𝓤} {K : Type 0} {Γ : List (Item 𝓤)} → K → {X P : SProp 𝓤} → ent 𝓤 (emp 𝓤) X → Step K 𝓛 Γ (prop P) Γ (prop (sep 𝓤 P X))
claims {𝓤 = 𝓤} t {X} {P} x = step (λ s. record { prf = via 𝓤 P s.prf (via 𝓤 (sep 𝓤 (emp 𝓤) P) (emp∗ 𝓤 P) (via 𝓤 (sep 𝓤 X P) (mono_l 𝓤 P x) (comm∗ 𝓤 X P))) })
