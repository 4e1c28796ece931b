pub mod ResumedTexts
