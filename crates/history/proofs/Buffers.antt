-- Lists of entries: buffers, whose addresses are distinct, what placing one word changes, and how far a cursor has come.
use Rattle.std.proofs.Common.{◌≡◌, ℕ, zero, suc, ◌+◌, Bool, true, false, cond, ◌==◌, eqb, ◌⊎◌, List, [], ◌∷◌, ◌++◌, length, get_or, take, drop, Some, None, Option, sym, refl, ap, ◌∙◌, subst, inl, inr, add-one, arith}
use Rattle.std.specs.List.{find}
use Rattle.std.specs.Option.{option_map}
use Rattle.std.proofs.lemmas.Bool.{eqb-true, eqb-false, eq-eqb, ne_eqb}
use Rattle.write_buffer.specs.declared.entry.Entry.{Entry}
use Rattle.history.specs.Serial.{fresh}
use Rattle.history.specs.Law.{Member, here, there}
use Rattle.write_buffer.specs.Buffers.{lookup, placed}

abbrev pub In : Entry → List Entry → Type 0
In e [] = ⊥
In e (x ∷ xs) = (e ≡ x) ⊎ In e xs

abbrev pub Distinct : List Entry → Type 0
Distinct [] = Unit {0}
Distinct (e ∷ es) = (lookup es e.address ≡ None) × Distinct es

abbrev pub addresses : List Entry → List ℕ
addresses [] = []
addresses (e ∷ es) = e.address ∷ addresses es

-- the word of an address where there is one, or another
abbrev pub over : Option ℕ → ℕ → ℕ
over None x = x
over (Some v) x = v

-- the first entry is asked, and then the others
lookup-cons : (x : Entry) (xs : List Entry) (a : ℕ) → lookup (x ∷ xs) a ≡ cond (eqb x.address a) (Some x.word) (lookup xs a)
lookup-cons x xs a = go (eqb x.address a)
  where
    go : (t : Bool) → option_map (λ (e : Entry). e.word) (cond t (Some x) (find (λ e. e.address == a) xs)) ≡ cond t (Some x.word) (lookup xs a)
    go true = refl
    go false = refl

pub lookup-placed : (b : List Entry) (a v c : ℕ) → lookup (placed b a v) c ≡ cond (eqb a c) (Some v) (lookup b c)
lookup-placed [] a v c = lookup-cons (record { address = a; word = v }) [] c
lookup-placed (e ∷ es) a v c =
    let ih = lookup-placed es a v c in
    let own = lookup-cons e es c in
    let kept = lookup-cons e (placed es a v) c in
    let put = lookup-cons (record { address = a; word = v }) es c in
    grind (arith, ih, own, kept, put)

pub distinct_placed : (b : List Entry) (a v : ℕ) → Distinct b → Distinct (placed b a v)
distinct_placed [] a v d = (refl, tt)
distinct_placed (e ∷ es) a v d = let ih = distinct_placed es a v d.1 in go ih (eqb e.address a) refl
  where
    go : Distinct (placed es a v) → (t : Bool) → eqb e.address a ≡ t → Distinct (cond t (record { address = a; word = v } ∷ es) (e ∷ placed es a v))
    go ih true h = (subst (λ x. lookup es x ≡ None) (eqb-true e.address a h) d.0, d.1)
    go ih false h = (lookup-placed es a v e.address ∙ rw (ne_eqb a e.address (λ q. eqb-false e.address a h (sym q))) d.0, ih)

pub addresses-placed : (b : List Entry) (a v : ℕ) → addresses (placed b a v) ≡ fresh a (addresses b)
addresses-placed [] a v = refl
addresses-placed (e ∷ es) a v = let ih = addresses-placed es a v in go ih (eqb e.address a) refl
  where
    go : addresses (placed es a v) ≡ fresh a (addresses es) → (t : Bool) → eqb e.address a ≡ t →
        addresses (cond t (record { address = a; word = v } ∷ es) (e ∷ placed es a v)) ≡ cond t (e.address ∷ addresses es) (e.address ∷ fresh a (addresses es))
    go ih true h = ap {B = List ℕ} (λ x. x ∷ addresses es) (sym (eqb-true e.address a h))
    go ih false h = ap {B = List ℕ} (λ r. e.address ∷ r) ih

pub in_placed : (b : List Entry) (a v : ℕ) (e : Entry) → In e (placed b a v) → In e b ⊎ (e.address ≡ a)
in_placed [] a v e (inl p) = inr (ap (λ (x : Entry). x.address) p)
in_placed [] a v e (inr n) = inl n
in_placed (x ∷ xs) a v e h = go (in_placed xs a v e) (eqb x.address a) h
  where
    go : (In e (placed xs a v) → In e xs ⊎ (e.address ≡ a)) → (t : Bool) → In e (cond t (record { address = a; word = v } ∷ xs) (x ∷ placed xs a v)) →
        ((e ≡ x) ⊎ In e xs) ⊎ (e.address ≡ a)
    go ih true (inl p) = inr (ap (λ (y : Entry). y.address) p)
    go ih true (inr n) = inl (inr n)
    go ih false (inl p) = inl (inl p)
    go ih false (inr n) = elim (ih n) [ inl m ↦ inl (inr m) | inr q ↦ inr q ]

-- an entry's word is the one that is looked up
pub lookup_in : (b : List Entry) → Distinct b → (e : Entry) → In e b → lookup b e.address ≡ Some e.word
lookup_in [] d e n = absurd n
lookup_in (x ∷ xs) d e (inl p) = lookup-cons x xs e.address ∙ rw (p, eq-eqb x.address x.address refl)
lookup_in (x ∷ xs) d e (inr n) = let ih = lookup_in xs d.1 e n in lookup-cons x xs e.address ∙ go ih (eqb x.address e.address) refl
  where
    go : lookup xs e.address ≡ Some e.word → (t : Bool) → eqb x.address e.address ≡ t → cond t (Some x.word) (lookup xs e.address) ≡ Some e.word
    go ih true h = let d0 = d.0 in let q = eqb-true x.address e.address h in cc
    go ih false h = ih

-- what is looked up is an entry's
pub in_lookup : (b : List Entry) (a v : ℕ) → lookup b a ≡ Some v → (e : Entry) × (In e b) × (e.address ≡ a)
in_lookup [] a v h = let z : ◌≡◌ {A = ℕ} 0 1 = cc in absurd (omega arith)
in_lookup (x ∷ xs) a v h = go (in_lookup xs a v) (eqb x.address a) refl (sym (lookup-cons x xs a) ∙ h)
  where
    go : (lookup xs a ≡ Some v → (e : Entry) × (In e xs) × (e.address ≡ a)) → (t : Bool) → eqb x.address a ≡ t → cond t (Some x.word) (lookup xs a) ≡ Some v →
        (e : Entry) × ((e ≡ x) ⊎ In e xs) × (e.address ≡ a)
    go ih true p q = (x, inl refl, eqb-true x.address a p)
    go ih false p q = let r = ih q in (r.0, inr r.1, r.2)

pub length-addresses : (b : List Entry) → length (addresses b) ≡ length b
length-addresses [] = refl
length-addresses (e ∷ es) = ap suc (length-addresses es)

pub member_address : (b : List Entry) (a : ℕ) → Member a (addresses b) → (e : Entry) × (In e b) × (e.address ≡ a)
member_address [] a m = elim m [ ]
member_address (x ∷ xs) a here = (x, inl refl, refl)
member_address (x ∷ xs) a (there m) = let r = member_address xs a m in (r.0, inr r.1, r.2)

pub in_member : (b : List Entry) (e : Entry) → In e b → Member e.address (addresses b)
in_member [] e n = absurd n
in_member (x ∷ xs) e (inl p) = rw p here
in_member (x ∷ xs) e (inr n) = there (in_member xs e n)

pub member_in : (b : List Entry) (e : Entry) → Member e b → In e b
member_in [] e m = elim m [ ]
member_in (x ∷ xs) e here = inl refl
member_in (x ∷ xs) e (there m) = inr (member_in xs e m)

pub member_cases : {a b : ℕ} {bs : List ℕ} → Member a (b ∷ bs) → (a ≡ b) ⊎ Member a bs
member_cases here = inl refl
member_cases (there m) = inr m

-- one entry more at the end
pub in_front : (b : List Entry) (x e : Entry) → In e b → In e (b ++ (x ∷ []))
in_front [] x e n = absurd n
in_front (y ∷ ys) x e (inl p) = inl p
in_front (y ∷ ys) x e (inr n) = inr (in_front ys x e n)

pub in_end : (b : List Entry) (x : Entry) → In x (b ++ (x ∷ []))
in_end [] x = inl refl
in_end (y ∷ ys) x = inr (in_end ys x)

pub in_snoc : (b : List Entry) (x e : Entry) → In e (b ++ (x ∷ [])) → In e b ⊎ (e ≡ x)
in_snoc [] x e (inl p) = inr p
in_snoc [] x e (inr n) = inl n
in_snoc (y ∷ ys) x e (inl p) = inl (inl p)
in_snoc (y ∷ ys) x e (inr n) = elim (in_snoc ys x e n) [ inl m ↦ inl (inr m) | inr p ↦ inr p ]

pub in_take : (n : ℕ) (b : List Entry) (e : Entry) → In e (take n b) → In e b
in_take zero b e h = absurd h
in_take (suc n) [] e h = absurd h
in_take (suc n) (x ∷ xs) e (inl p) = inl p
in_take (suc n) (x ∷ xs) e (inr h) = inr (in_take n xs e h)

pub in_drop : (n : ℕ) (b : List Entry) (e : Entry) → In e (drop n b) → In e b
in_drop zero b e h = h
in_drop (suc n) [] e h = absurd h
in_drop (suc n) (x ∷ xs) e h = inr (in_drop n xs e h)

-- one entry more has been taken
pub in_take_more : (n : ℕ) (b : List Entry) (d e : Entry) → In e (take (n + 1) b) → In e (take n b) ⊎ (e ≡ get_or b n d)
in_take_more n b d e h = go n b (subst (λ k. In e (take k b)) (add-one n) h)
  where
    go : (n : ℕ) (b : List Entry) → In e (take (suc n) b) → In e (take n b) ⊎ (e ≡ get_or b n d)
    go n [] h = absurd h
    go zero (x ∷ xs) (inl p) = inr p
    go zero (x ∷ xs) (inr h) = absurd h
    go (suc n) (x ∷ xs) (inl p) = inl (inl p)
    go (suc n) (x ∷ xs) (inr h) = elim (go n xs h) [ inl r ↦ inl (inr r) | inr r ↦ inr r ]
