-- What is worth more than many things of lower levels.
use Rattle.std.proofs.Common.{◌≡◌, ℕ, zero, suc, ◌+◌, ◌-◌, ◌*◌, ◌<◌, ◌≤◌, ◌^◌, List, [], ◌∷◌, length, refl, subst, arith}
use Rattle.symbols_paths.specs.declared.alias_decl.AliasDecl.{AliasDecl}
use Rattle.symbols_paths.specs.declared.search_step.Frame.{Frame}
use Rattle.symbols_paths.specs.declared.search_step.Frame.TheVariants as frame
use Rattle.symbols_paths.specs.inner.StillToCome.{aliases_with_frames}
use Rattle.symbols_paths.specs.inner.SearchWork.{work_of_level, levels_of_remaining_alias_searches, work_of_candidate_search, work_of_decl_search}
use Rattle.symbols_paths.specs.inner.SearchWork.{work_of_frames}

pub some_worth : (a : ℕ) → 1 ≤ work_of_level a
unfolding work_of_level
some_worth zero = omega arith
some_worth (suc a) = omega (arith, some_worth a)

one_level_more : (a : ℕ) → work_of_level (suc a) ≡ 2 ^ 65 * work_of_level a
unfolding work_of_level
one_level_more a = refl

worth_more : (a k : ℕ) → work_of_level a ≤ work_of_level (k + a)
worth_more a zero = subst (λ n. work_of_level a ≤ work_of_level n) (the_same a) (omega arith)
  where
    the_same : (n : ℕ) → n ≡ zero + n
    the_same n = omega arith
worth_more a (suc k) = subst (λ n. work_of_level a ≤ work_of_level n) (the_next k a) (omega (arith, one_level_more (k + a), worth_more a k))
  where
    the_next : (m n : ℕ) → suc (m + n) ≡ suc m + n
    the_next m n = omega arith

pub not_less : (a b : ℕ) → a ≤ b → work_of_level a ≤ work_of_level b
not_less a b le = subst (λ n. work_of_level a ≤ work_of_level n) (the_sum a b le) (worth_more a (b - a))
  where
    the_sum : (m n : ℕ) → m ≤ n → (n - m) + m ≡ n
    the_sum m n h = omega (arith, h)

pub next_level : (a b : ℕ) → a < b → 2 ^ 65 * work_of_level a ≤ work_of_level b
next_level a b lt = omega (arith, one_level_more a, not_less (suc a) b (omega (arith, lt)))

times_le : (n m x : ℕ) → n ≤ m → n * x ≤ m * x
times_le zero m x le = omega arith
times_le (suc n) zero x le = absurd (omega (arith, le))
times_le (suc n) (suc m) x le = omega (arith, times_le n m x (omega (arith, le)))

-- many of one level
pub many_below : (n a b k : ℕ) → n < 2 ^ 64 → a < b → k < 2 ^ 64 → n * work_of_level a + k < work_of_level b
many_below n a b k few lt small = omega (arith, next_level a b lt, times_le n (2 ^ 64) (work_of_level a) (omega (arith, few)), some_worth a, small)

-- one of each of two levels
pub two_below : (a b c k : ℕ) → a < c → b < c → k < 2 ^ 64 → work_of_level a + work_of_level b + k < work_of_level c
two_below a b c k lt less small = omega (arith, next_level a c lt, next_level b c less, some_worth a, some_worth b, small)

pub times_more : (n x y : ℕ) → x ≤ y → n * x ≤ n * y
times_more zero x y le = omega arith
times_more (suc n) x y le = omega (arith, times_more n x y le)

-- one of so many less
pub one_of : (n i x : ℕ) → i < n → (n - i) * x ≡ (n - (i + 1)) * x + x
one_of n i x lt =
    let e : n - i ≡ suc (n - (i + 1)) = omega (arith, lt) in
    rw e (omega arith)

-- the aliases of one more are below what is left
pub one_alias_below : (running parts : ℕ) → running < 2 ^ 64 → parts < 2 ^ 64 → levels_of_remaining_alias_searches (running + 1)
    + (3 * 2 ^ 64 + (2 * parts + 1)) < levels_of_remaining_alias_searches running
unfolding levels_of_remaining_alias_searches
one_alias_below running parts few short =
    let split : (2 ^ 64 - running) * (2 ^ 64 * 6) ≡ (2 ^ 64 - (running + 1)) * (2 ^ 64 * 6) + 2 ^ 64 * 6 = omega (arith, few) in
    omega (arith, split, short)

-- where more symbols are visited, no more is left for what waits
pub fewer_left : (before : List AliasDecl) (frames : List Frame) (visited more : ℕ) → visited ≤ more
    → work_of_frames before frames more ≤ work_of_frames before frames visited
fewer_left before [] visited more le = omega arith
fewer_left before (frame.Link here t ∷ frames) visited more le =
    let running = length (aliases_with_frames before frames) in
    let one = times_more (2 ^ 32 - (here.index + 1)) (work_of_decl_search running more) (work_of_decl_search running visited)
    (not_less (levels_of_remaining_alias_searches running + (3 * (2 ^ 64 - more) + 2))
    (levels_of_remaining_alias_searches running + (3 * (2 ^ 64 - visited) + 2)) (omega (arith, le))) in
    omega (arith, one, fewer_left before frames visited more le)
fewer_left before (frame.Star w ∷ frames) visited more le =
    let running = length (aliases_with_frames before frames) in
    let one = times_more (2 ^ 32 - (w.value.here.index + 1)) (work_of_decl_search running more) (work_of_decl_search running visited)
    (not_less (levels_of_remaining_alias_searches running + (3 * (2 ^ 64 - more) + 2))
    (levels_of_remaining_alias_searches running + (3 * (2 ^ 64 - visited) + 2)) (omega (arith, le))) in
    let each = times_more (2 ^ 63 - w.value.position) (work_of_candidate_search running more) (work_of_candidate_search running visited)
    (not_less (levels_of_remaining_alias_searches running + (3 * (2 ^ 64 - more) + 1))
    (levels_of_remaining_alias_searches running + (3 * (2 ^ 64 - visited) + 1)) (omega (arith, le))) in
    omega (arith, one, each, fewer_left before frames visited more le)
fewer_left before (frame.Alias w ∷ frames) visited more le = omega arith
fewer_left before (frame.Parts ps ∷ frames) visited more le = omega (arith, fewer_left before frames visited more le)
fewer_left before (frame.Replacement w ∷ frames) visited more le = omega (arith, fewer_left before frames visited more le)
