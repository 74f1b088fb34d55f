-- What a walk says at its end of a contract that has three clauses: `Denote/Triple/Walked.antt`'s `says`, three times.
use mathlib.Core.List.{List}
use seplogic.Ra.Ura.{Ura}
use base.Logic.{SProp, sep, assoc∗}
use types.Logic.{Logic}
use contract.Monad.{fact}
use types.Kit.{Item, Step, step, prop, suffices, ◌$◌}
use denote.Triple.Walked.{says}

pub says3 : {M : Type 1} {𝓤 : Ura M} {𝓛 : Logic 𝓤} {K : Type 0} {Γ : List (Item 𝓤)} → K → {φ ψ χ : Type 0} {P : SProp 𝓤} → φ → ψ → χ
    → Step K 𝓛 Γ (prop P) Γ (prop (sep 𝓤 P (sep 𝓤 (fact 𝓤 φ) (sep 𝓤 (fact 𝓤 ψ) (fact 𝓤 χ)))))
says3 {𝓤 = 𝓤} k {φ} {ψ} {χ} {P} x y z =
    step (λ s. suffices k (sep 𝓤 (sep 𝓤 P (fact 𝓤 φ)) (sep 𝓤 (fact 𝓤 ψ) (fact 𝓤 χ))) (assoc∗ 𝓤 P (fact 𝓤 φ) (sep 𝓤 (fact 𝓤 ψ) (fact 𝓤 χ))) $
    suffices k (sep 𝓤 (sep 𝓤 (sep 𝓤 P (fact 𝓤 φ)) (fact 𝓤 ψ)) (fact 𝓤 χ)) (assoc∗ 𝓤 (sep 𝓤 P (fact 𝓤 φ)) (fact 𝓤 ψ) (fact 𝓤 χ)) $ says k z $ says k y $ says k x $ s)
