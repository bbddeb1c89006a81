-- Texts that are appended in several steps.
use Rattle.std.proofs.Common.{◌≡◌, ℕ, List, ◌++◌, append_assoc, refl}

-- a line whose text has two parts
pub two_parts : (before one after name value end : List ℕ) → one ≡ before ++ name → after ≡ one ++ (value ++ end) → after ≡ before ++ ((name ++ value) ++ end)
two_parts before one after name value end a b = rw (b, a) (simp append_assoc refl)

-- the ten parts of a head
pub ten_parts : (out o1 o2 o3 o4 o5 o6 o7 o8 o9 o10 a b c d e f g h i j : List ℕ)
    → o1 ≡ out ++ a → o2 ≡ o1 ++ b → o3 ≡ o2 ++ c → o4 ≡ o3 ++ d → o5 ≡ o4 ++ e → o6 ≡ o5 ++ f → o7 ≡ o6 ++ g → o8 ≡ o7 ++ h → o9 ≡ o8 ++ i → o10 ≡ o9 ++ j
    → o10 ≡ out ++ (a ++ b ++ c ++ d ++ e ++ f ++ g ++ h ++ i ++ j)
ten_parts out o1 o2 o3 o4 o5 o6 o7 o8 o9 o10 a b c d e f g h i j p1 p2 p3 p4 p5 p6 p7 p8 p9 p10 =
    rw (p10, p9, p8, p7, p6, p5, p4, p3, p2, p1) (simp append_assoc refl)
