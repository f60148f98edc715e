-- Steps that may find nothing: what one finds that did.
use Rattle.std.proofs.Common.{◌≡◌, Bool, true, false, cond, Option, Some, None, option_map, refl, sym, ap, subst, ◌∙◌}
use Rattle.std.specs.Option.{option_or}
use Rattle.rv_fields.specs.Attempt.{◌>>=◌}
use Rattle.rv_fields.specs.Laws.{Below}

-- what the first finds the second finds too, but for a change of it
abbrev pub Maps : {A B : Type 0} → (A → B) → Option A → Option B → Type 0
Maps {A} k m n = (a : A) → m ≡ Some a → n ≡ Some (k a)

pub found : {A B : Type 0} (m : Option A) (f : A → Option B) (y : B) → (m >>= f) ≡ Some y → (a : A) × (m ≡ Some a) × (f a ≡ Some y)
found None f y h = absurd cc
found (Some a) f y h = (a, refl, h)

pub found_map : {A B : Type 0} (f : A → B) (m : Option A) (y : B) → option_map f m ≡ Some y → (a : A) × (m ≡ Some a) × (f a ≡ y)
found_map f None y h = absurd cc
found_map f (Some a) y h = let e : f a ≡ y = cc in (a, refl, e)

pub below_same : {A : Type 0} (m : Option A) → Below m m
below_same m a e = e

pub below_bind : {A B : Type 0} (m n : Option A) (f g : A → Option B) → Below m n → ((a : A) → Below (f a) (g a)) → Below (m >>= f) (n >>= g)
below_bind None n f g h k b e = absurd cc
below_bind (Some a) n f g h k b e = subst (λ q. (q >>= g) ≡ Some b) (sym (h a refl)) (k a b e)

pub below_map : {A B : Type 0} (f : A → B) (m n : Option A) → Below m n → Below (option_map f m) (option_map f n)
below_map f None n h b e = absurd cc
below_map f (Some a) n h b e = subst (λ q. option_map f q ≡ Some b) (sym (h a refl)) e

pub below_if : {A : Type 0} (b : Bool) (m n p q : Option A) → Below m n → Below p q → Below (cond b m p) (cond b n q)
below_if true m n p q h k = h
below_if false m n p q h k = k

pub maps_bind : {A B C : Type 0} (j : B → C) (m : Option A) (f : A → Option B) (g : A → Option C) → ((a : A) → Maps j (f a) (g a)) → Maps j (m >>= f) (m >>= g)
maps_bind j None f g l b e = absurd cc
maps_bind j (Some a) f g l b e = l a b e

pub maps_map : {A B C : Type 0} (j : B → C) (m : Option A) (f : A → B) (g : A → C) → ((a : A) → g a ≡ j (f a)) → Maps j (option_map f m) (option_map g m)
maps_map j None f g l b e = absurd cc
maps_map j (Some a) f g l b e = let was : f a ≡ b = cc in ap Some (l a) ∙ ap (λ q. Some (j q)) was

pub maps_if : {A B : Type 0} (k : A → B) (b : Bool) (m : Option A) (n : Option B) (p : Option A) (q : Option B)
    → Maps k m n → Maps k p q → Maps k (cond b m p) (cond b n q)
maps_if k true m n p q h l = h
maps_if k false m n p q h l = l

pub maps_some : {A B : Type 0} (k : A → B) (a : A) → Maps k (Some a) (Some (k a))
maps_some k a b e = ap (option_map k) e

-- ---- what is found has a property

abbrev pub Always : {A : Type 0} → (A → Type 0) → Option A → Type 0
Always {A} P m = (a : A) → m ≡ Some a → P a

pub always_some : {A : Type 0} (P : A → Type 0) (a : A) → P a → Always P (Some a)
always_some P a p b e = subst P (let same : a ≡ b = cc in same) p

pub always_if : {A : Type 0} (P : A → Type 0) (b : Bool) (m n : Option A) → Always P m → Always P n → Always P (cond b m n)
always_if P true m n h k = h
always_if P false m n h k = k

pub always_map : {A B : Type 0} (P : B → Type 0) (f : A → B) (m : Option A) → ((a : A) → m ≡ Some a → P (f a)) → Always P (option_map f m)
always_map P f None h b e = absurd cc
always_map P f (Some a) h b e = subst P (let same : f a ≡ b = cc in same) (h a refl)

pub always_bind : {A B : Type 0} (P : B → Type 0) (m : Option A) (f : A → Option B) → ((a : A) → m ≡ Some a → Always P (f a)) → Always P (m >>= f)
always_bind P None f h b e = absurd cc
always_bind P (Some a) f h b e = h a refl b e

-- ---- the first of some that is there

pub or_none : {A : Type 0} (m : Option A) → option_or m None ≡ m
or_none None = refl
or_none (Some a) = refl

pub or_assoc : {A : Type 0} (m n o : Option A) → option_or m (option_or n o) ≡ option_or (option_or m n) o
or_assoc None n o = refl
or_assoc (Some a) n o = refl
