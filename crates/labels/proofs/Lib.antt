-- Laws of labels: what a sound one holds, what the fields say of the questions, and the questions themselves.
pub mod LabelLaws
pub mod QuestionLaws
pub mod RelationLaws
