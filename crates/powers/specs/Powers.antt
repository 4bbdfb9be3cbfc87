-- The table of the transform, and the ring that it works in.
--
--   modulus    12289, the modulus of degree 128: a prime, and 256 divides 12288
--   powers     the powers of 9 modulo 12289, from 9^0 to 9^255
--   K          the ring of the residues modulo 12289
--   res n      the residue of a number
--   psi        9, whose 128th power is −1
--   root D e j the root at which place j of a transformed block at e, of 2^D places, has its value
--   Below b l  every number of l is below b
--   seen l k   the residue of number k of l: a number counts as its residue, so that it may be larger than one
use Rattle.std.specs.Prelude.{List, [], ◌∷◌, ℕ, ◌<◌, get_or}
use Rattle.std.proofs.Common.{arith}
use Rattle.algebra.specs.Ring.{CommRing, pow}
use Rattle.algebra.specs.Residues as Residues
use Rattle.algebra.specs.Residues.{Zmod}
use Rattle.algebra.specs.Transform.{leaf}
use Rattle.protocol.specs.Settings.{transform_modulus}

abbrev pub modulus : ℕ
modulus = transform_modulus

unfoldable pub powers : List ℕ
powers =
    1 ∷ 9 ∷ 81 ∷ 729 ∷ 6561 ∷ 9893 ∷ 3014 ∷ 2548 ∷ 10643 ∷ 9764 ∷ 1853 ∷ 4388 ∷ 2625 ∷ 11336 ∷ 3712 ∷ 8830
    ∷ 5736 ∷ 2468 ∷ 9923 ∷ 3284 ∷ 4978 ∷ 7935 ∷ 9970 ∷ 3707 ∷ 8785 ∷ 5331 ∷ 11112 ∷ 1696 ∷ 2975 ∷ 2197 ∷ 7484 ∷ 5911
    ∷ 4043 ∷ 11809 ∷ 7969 ∷ 10276 ∷ 6461 ∷ 8993 ∷ 7203 ∷ 3382 ∷ 5860 ∷ 3584 ∷ 7678 ∷ 7657 ∷ 7468 ∷ 5767 ∷ 2747 ∷ 145
    ∷ 1305 ∷ 11745 ∷ 7393 ∷ 5092 ∷ 8961 ∷ 6915 ∷ 790 ∷ 7110 ∷ 2545 ∷ 10616 ∷ 9521 ∷ 11955 ∷ 9283 ∷ 9813 ∷ 2294 ∷ 8357
    ∷ 1479 ∷ 1022 ∷ 9198 ∷ 9048 ∷ 7698 ∷ 7837 ∷ 9088 ∷ 8058 ∷ 11077 ∷ 1381 ∷ 140 ∷ 1260 ∷ 11340 ∷ 3748 ∷ 9154 ∷ 8652
    ∷ 4134 ∷ 339 ∷ 3051 ∷ 2881 ∷ 1351 ∷ 12159 ∷ 11119 ∷ 1759 ∷ 3542 ∷ 7300 ∷ 4255 ∷ 1428 ∷ 563 ∷ 5067 ∷ 8736 ∷ 4890
    ∷ 7143 ∷ 2842 ∷ 1000 ∷ 9000 ∷ 7266 ∷ 3949 ∷ 10963 ∷ 355 ∷ 3195 ∷ 4177 ∷ 726 ∷ 6534 ∷ 9650 ∷ 827 ∷ 7443 ∷ 5542
    ∷ 722 ∷ 6498 ∷ 9326 ∷ 10200 ∷ 5777 ∷ 2837 ∷ 955 ∷ 8595 ∷ 3621 ∷ 8011 ∷ 10654 ∷ 9863 ∷ 2744 ∷ 118 ∷ 1062 ∷ 9558
    ∷ 12288 ∷ 12280 ∷ 12208 ∷ 11560 ∷ 5728 ∷ 2396 ∷ 9275 ∷ 9741 ∷ 1646 ∷ 2525 ∷ 10436 ∷ 7901 ∷ 9664 ∷ 953 ∷ 8577 ∷ 3459
    ∷ 6553 ∷ 9821 ∷ 2366 ∷ 9005 ∷ 7311 ∷ 4354 ∷ 2319 ∷ 8582 ∷ 3504 ∷ 6958 ∷ 1177 ∷ 10593 ∷ 9314 ∷ 10092 ∷ 4805 ∷ 6378
    ∷ 8246 ∷ 480 ∷ 4320 ∷ 2013 ∷ 5828 ∷ 3296 ∷ 5086 ∷ 8907 ∷ 6429 ∷ 8705 ∷ 4611 ∷ 4632 ∷ 4821 ∷ 6522 ∷ 9542 ∷ 12144
    ∷ 10984 ∷ 544 ∷ 4896 ∷ 7197 ∷ 3328 ∷ 5374 ∷ 11499 ∷ 5179 ∷ 9744 ∷ 1673 ∷ 2768 ∷ 334 ∷ 3006 ∷ 2476 ∷ 9995 ∷ 3932
    ∷ 10810 ∷ 11267 ∷ 3091 ∷ 3241 ∷ 4591 ∷ 4452 ∷ 3201 ∷ 4231 ∷ 1212 ∷ 10908 ∷ 12149 ∷ 11029 ∷ 949 ∷ 8541 ∷ 3135 ∷ 3637
    ∷ 8155 ∷ 11950 ∷ 9238 ∷ 9408 ∷ 10938 ∷ 130 ∷ 1170 ∷ 10530 ∷ 8747 ∷ 4989 ∷ 8034 ∷ 10861 ∷ 11726 ∷ 7222 ∷ 3553 ∷ 7399
    ∷ 5146 ∷ 9447 ∷ 11289 ∷ 3289 ∷ 5023 ∷ 8340 ∷ 1326 ∷ 11934 ∷ 9094 ∷ 8112 ∷ 11563 ∷ 5755 ∷ 2639 ∷ 11462 ∷ 4846 ∷ 6747
    ∷ 11567 ∷ 5791 ∷ 2963 ∷ 2089 ∷ 6512 ∷ 9452 ∷ 11334 ∷ 3694 ∷ 8668 ∷ 4278 ∷ 1635 ∷ 2426 ∷ 9545 ∷ 12171 ∷ 11227 ∷ 2731 ∷ []

pub positive : 0 < modulus
positive = omega arith

abbrev pub K : CommRing
K = Zmod modulus positive

abbrev pub res : ℕ → K.C
res = Residues.res modulus positive

abbrev pub psi : K.C
psi = res 9

unfoldable pub root : ℕ → ℕ → ℕ → K.C
root D e j = pow K psi (leaf 128 D e j)

abbrev pub Below : ℕ → List ℕ → Type 0
Below b l = (k : ℕ) → get_or l k 0 < b

unfoldable pub seen : List ℕ → ℕ → K.C
seen l k = res (get_or l k 0)
