mod ComputedRuns
mod MadeStarts
mod NotLawful
mod Touched
mod TwoOffers
mod WrongRuns
