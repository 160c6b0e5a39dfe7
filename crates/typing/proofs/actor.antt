-- Laws of the actor.
pub mod Laws
